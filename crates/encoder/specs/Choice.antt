-- What the encoder may choose for a block: anything that can be said, stays within the edges, and comes within half a step of the source.
-- Assumes nothing: these are definitions.
use Rattle.std.specs.Prelude.{◌≡◌, ℕ, ◌/◌, ◌<◌, ◌≤◌, Bool, true}
use Rattle.std.proofs.Props.{props}
use Rattle.block.specs.Picture.{picture_of}
use Rattle.block.specs.Prediction.{predictable, predicted}
use Rattle.block.specs.Syntax.{SayableBlock, SayablePrediction}
use Rattle.block.specs.Transform.{distance, pixel_in, reconstructed}
use Rattle.block.specs.declared.block.Prediction.{Prediction}
use Rattle.block.specs.declared.block.Prediction.TheVariants.{Flat, Motion}
use Rattle.encoder.specs.declared.input.BlockInput.{BlockInput}
use Rattle.encoder.specs.declared.choice.Predicted.{Predicted}
use Rattle.encoder.specs.declared.choice.Choice.{Choice}

-- a prediction stays within the edges, from where the block is
abbrev pub staying : BlockInput → Prediction → Bool
staying b p = predictable b.reference.size b.left b.top p

-- the pixel that a prediction makes of the reference picture
abbrev pub predicted_pixel : BlockInput → Prediction → (x y : ℕ) → ℕ
predicted_pixel b p x y = predicted (picture_of b.reference) b.left b.top p x y

-- a prediction that can be said in the block's frame, with the pixels that it makes
pub record PredictedAs (b : BlockInput) (p : Predicted) : Type 0 where
  pub sayable : SayablePrediction b.header.key p.prediction
  pub within : staying b p.prediction ≡ true
  pub pixels : (x y : ℕ) → x < 4 → y < 4 → pixel_in p.pixels x y ≡ predicted_pixel b p.prediction x y

-- all of this has at most one proof, so that a ghost field can hold it
sayable_prop : (key : Bool) (p : Prediction) → IsProp (SayablePrediction key p)
sayable_prop key (Flat value) = hlevel props
sayable_prop key (Motion vector) = hlevel props

pub PredictedAs-prop : (b : BlockInput) (p : Predicted) → IsProp (PredictedAs b p)
PredictedAs-prop b p = hlevel (props, sayable_prop b.header.key p.prediction)

-- a block that can be said, with the pixels that it shows, each within half a step of the source
pub record ChosenAs (b : BlockInput) (c : Choice) : Type 0 where
  pub sayable : SayableBlock b.header.key c.block
  pub within : staying b c.block.prediction ≡ true
  pub pixels : (x y : ℕ) → x < 4 → y < 4 →
      pixel_in c.pixels x y ≡ reconstructed b.step.value c.block.levels (predicted_pixel b c.block.prediction x y) x y
  pub close : (x y : ℕ) → x < 4 → y < 4 → distance (pixel_in c.pixels x y) (pixel_in b.source x y) ≤ b.step.value / 2

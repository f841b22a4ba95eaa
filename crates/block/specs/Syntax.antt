-- How a block is read from decisions, and the decisions that say it. Assumes nothing: these are definitions.
use Rattle.std.specs.Prelude.{◌≡◌, zero, suc, ◌<◌, ◌≤◌, Bool, true, false, cond, ◌&&◌, List, [], ◌∷◌, ◌++◌, length, replicate, ℤ, pos, negsuc, unsigned_abs}
use Rattle.range_coder.specs.Decisions.{ReaderState, Read, read_adaptive, Decision, adaptive, Gives, after}
use Rattle.symbols.specs.Class.{first_context}
use Rattle.symbols.specs.declared.class.NumberClass.TheVariants.{MotionX, MotionY}
use Rattle.symbols.specs.Reading.{read_bits, read_signed, read_levels}
use Rattle.symbols.specs.Saying.{bits_decisions, signed_decisions, levels_decisions}
use Rattle.symbols.specs.Promise.{largest, Sayable}
use Rattle.block.specs.declared.block.Prediction.{Prediction}
use Rattle.block.specs.declared.block.Prediction.TheVariants.{Flat, Motion}
use Rattle.block.specs.declared.block.Block.{Block}

-- READING

-- a flat value is eight equiprobable bits
unfoldable pub read_flat : ReaderState → Read Prediction
read_flat r = record { value = Flat (read_bits 8 0 r).value; next = (read_bits 8 0 r).next }

-- a motion vector is two signed numbers, to the right and down
unfoldable pub read_motion : ReaderState → Read Prediction
read_motion r = record {
  value = Motion (record {
    dx = (read_signed (first_context MotionX) r).value;
    dy = (read_signed (first_context MotionY) (read_signed (first_context MotionX) r).next).value;
  });
  next = (read_signed (first_context MotionY) (read_signed (first_context MotionX) r).next).next;
}

-- a key frame's blocks are flat; in another frame context 0 says which are predicted by motion
unfoldable pub read_prediction : (key : Bool) → ReaderState → Read Prediction
read_prediction true r = read_flat r
read_prediction false r = cond (read_adaptive 0 r).value (read_motion (read_adaptive 0 r).next) (read_flat (read_adaptive 0 r).next)

abbrev pub no_levels : List ℤ
no_levels = replicate 16 (pos 0)

-- context 1 says whether there are levels
unfoldable pub read_residual : ReaderState → Read (List ℤ)
read_residual r =
    cond (read_adaptive 1 r).value (read_levels 16 0 (read_adaptive 1 r).next) (record { value = no_levels; next = (read_adaptive 1 r).next })

unfoldable pub read_block : (key : Bool) → ReaderState → Read Block
read_block key r = record {
  value = record { prediction = (read_prediction key r).value; levels = (read_residual (read_prediction key r).next).value };
  next = (read_residual (read_prediction key r).next).next;
}

-- SAYING

unfoldable pub prediction_decisions : (key : Bool) → Prediction → List Decision
prediction_decisions true (Flat v) = bits_decisions 8 v
prediction_decisions false (Flat v) = adaptive 0 false ∷ bits_decisions 8 v
prediction_decisions key (Motion m) = adaptive 0 true ∷ (signed_decisions (first_context MotionX) m.dx ++ signed_decisions (first_context MotionY) m.dy)

unfoldable pub is_zero : ℤ → Bool
is_zero (pos zero) = true
is_zero (pos (suc n)) = false
is_zero (negsuc n) = false

unfoldable pub all_zero : List ℤ → Bool
all_zero [] = true
all_zero (z ∷ zs) = is_zero z && all_zero zs

unfoldable pub residual_decisions : List ℤ → List Decision
residual_decisions levels = cond (all_zero levels) (adaptive 1 false ∷ []) (adaptive 1 true ∷ levels_decisions 0 levels)

unfoldable pub block_decisions : (key : Bool) → Block → List Decision
block_decisions key b = prediction_decisions key b.prediction ++ residual_decisions b.levels

-- what can be said of a prediction: no motion in a key frame, and no vector past the largest number
abbrev pub SayablePrediction : (key : Bool) → Prediction → Type 0
SayablePrediction key (Flat v) = v < 256
SayablePrediction key (Motion m) = (key ≡ false) × (unsigned_abs m.dx ≤ largest) × (unsigned_abs m.dy ≤ largest)

pub record SayableBlock (key : Bool) (b : Block) : Type 0 where
  pub prediction : SayablePrediction key b.prediction
  pub sixteen : length b.levels ≡ 16
  pub levels : Sayable b.levels

-- A BLOCK THAT WAS SAID IS READ BACK, part by part as its symbols are.
abbrev pub BlockReadBack : Type 0
BlockReadBack =
    (key : Bool) (b : Block) (r : ReaderState) → SayableBlock key b → Gives r (block_decisions key b) →
    read_block key r ≡ record { value = b; next = after r (block_decisions key b) }

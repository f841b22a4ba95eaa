-- What frames promise. Each is a statement, and a function's contract asks for its proof.
use Rattle.std.specs.Prelude.{◌≡◌, ℕ, ◌+◌, ◌*◌, ◌<◌, ◌≤◌, Bool, true, false, List, [], ◌∷◌, ◌++◌, replicate, pos}
use Rattle.bits.specs.Bits.{Bits, bits_of, bits_from}
use Rattle.block.specs.Picture.{Picture}
use Rattle.block.specs.Syntax.{no_levels}
use Rattle.block.specs.declared.block.Block.{Block}
use Rattle.block.specs.declared.block.Prediction.{Prediction}
use Rattle.block.specs.declared.block.Prediction.TheVariants.{Flat, Motion}
use Rattle.frame.specs.Frame.{Format, Frame, frame_block, shows, valid}
use Rattle.frame.specs.Saying.{SayableBlocks}

-- WHATEVER BLOCKS AN ENCODER CHOOSES CAN BE SAID IN BITS: the bottom of the range that their decisions narrow to.
-- The bits have an end, and 2192 for each block and eight are enough.
abbrev pub SaidInBits : Type 0
SaidInBits =
    (key : Bool) (blocks : ℕ → Block) (n : ℕ) → SayableBlocks key blocks n →
    (bits : Bits) × ((k : ℕ) → 2192 * n + 8 ≤ k → bits k ≡ false)
    × ((i : ℕ) → i < n → frame_block (record { header = record { key = key }; bits = bits }) i ≡ blocks i)

-- ZERO BITS AFTER THE BITS CHANGE NOTHING, since a bit string has zeros without end.
pub record ZerosIgnored : Type 0 where
  pub bits : (bs : List Bool) (n : ℕ) → bits_from (bs ++ replicate n false) ≡ bits_from bs
  pub bytes : (bytes : List ℕ) (n : ℕ) → bits_of (bytes ++ replicate n 0) ≡ bits_of bytes

-- A KEY FRAME DOES NOT LOOK AT THE REFERENCE PICTURE, since none of its blocks is predicted by motion.
abbrev pub KeyAlone : Type 0
KeyAlone = (f : Format) (frame : Frame) (a b : Picture) → frame.header.key ≡ true → shows f a frame ≡ shows f b frame

-- so a key frame is always valid
abbrev pub KeyValid : Type 0
KeyValid = (f : Format) (frame : Frame) → frame.header.key ≡ true → valid f frame ≡ true

-- OTHER FRAMES LOOK AT IT ONLY WITHIN ITS EDGES, since a valid frame's blocks stay within them.
abbrev pub WithinEdges : Type 0
WithinEdges =
    (f : Format) (frame : Frame) (a b : Picture) → valid f frame ≡ true →
    ((x y : ℕ) → x < 4 * f.across → y < 4 * f.down → a x y ≡ b x y) →
    (x y : ℕ) → x < 4 * f.across → y < 4 * f.down → shows f a frame x y ≡ shows f b frame x y

-- WORKED EXAMPLES: the block that these bytes mean in a frame of one block
pub record Example : Type 0 where
  pub key : Bool
  pub bytes : List ℕ
  pub prediction : Prediction

abbrev pub examples : List Example
examples =
    record { key = true; bytes = []; prediction = Flat 0 } ∷
    (record { key = true; bytes = 128 ∷ []; prediction = Flat 128 } ∷
    (record { key = true; bytes = 255 ∷ []; prediction = Flat 255 } ∷
    (record { key = false; bytes = 128 ∷ []; prediction = Motion (record { dx = pos 0; dy = pos 0 }) } ∷ [])))

abbrev pub Means : Example → Type 0
Means e =
    frame_block (record { header = record { key = e.key }; bits = bits_of e.bytes }) 0
    ≡ record { prediction = e.prediction; levels = no_levels }

abbrev pub AllMean : List Example → Type 0
AllMean [] = Unit {0}
AllMean (e ∷ es) = Means e × AllMean es

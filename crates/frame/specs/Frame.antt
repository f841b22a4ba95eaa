-- What a frame's bits mean. Assumes nothing: these are definitions.
use Rattle.std.specs.Prelude.{◌≡◌, ℕ, zero, suc, ◌+◌, ◌*◌, ◌/◌, ◌%◌, ◌<◌, Bool, true, ◌&&◌, List, length}
use Rattle.bits.specs.Bits.{Bits}
use Rattle.range_coder.specs.Decisions.{ReaderState, start_reader}
use Rattle.block.specs.Picture.{Picture, picture_in}
use Rattle.block.specs.Prediction.{predictable, predicted}
use Rattle.block.specs.Transform.{reconstructed}
use Rattle.block.specs.Syntax.{read_block}
use Rattle.block.specs.declared.block.Block.{Block}
use Rattle.block.specs.declared.block.PlaneSize.{PlaneSize}
use Rattle.frame.specs.declared.header.FrameHeader.{FrameHeader}

-- a video's size in blocks, and its quantiser step
pub record Format : Type 0 where
  pub across : ℕ
  pub down : ℕ
  pub step : ℕ

abbrev pub block_count : Format → ℕ
block_count f = f.across * f.down

abbrev pub plane_size : Format → PlaneSize
plane_size f = record { width = 4 * f.across; height = 4 * f.down }

pub record Frame : Type 0 where
  pub header : FrameHeader
  pub bits : Bits

-- a frame with its sequence number
pub record Packet : Type 0 where
  pub number : ℕ
  pub frame : Frame

-- blocks follow each other row by row; where a reader stands after n of them, and which one then comes
unfoldable pub past : (key : Bool) → ReaderState → ℕ → ReaderState
past key r zero = r
past key r (suc n) = (read_block key (past key r n)).next

unfoldable pub block_at : (key : Bool) → ReaderState → ℕ → Block
block_at key r n = (read_block key (past key r n)).value

abbrev pub frame_block : Frame → ℕ → Block
frame_block frame n = block_at frame.header.key (start_reader frame.bits) n

-- the column and the row of block n's first pixel
abbrev pub block_left : Format → ℕ → ℕ
block_left f n = 4 * (n % f.across)

abbrev pub block_top : Format → ℕ → ℕ
block_top f n = 4 * (n / f.across)

-- a test that holds of every number below n
unfoldable pub every : ℕ → (ℕ → Bool) → Bool
every zero test = true
every (suc n) test = every n test && test n

abbrev pub block_predictable : Format → (ℕ → Block) → ℕ → Bool
block_predictable f blocks n = predictable (plane_size f) (block_left f n) (block_top f n) (blocks n).prediction

-- a frame is valid where no block is taken from over an edge
unfoldable pub valid : Format → Frame → Bool
valid f frame = every (block_count f) (block_predictable f (frame_block frame))

-- the block that a pixel is in
abbrev pub block_of_pixel : Format → (x y : ℕ) → ℕ
block_of_pixel f x y = y / 4 * f.across + x / 4

-- the picture that blocks make from a reference picture
unfoldable pub picture_of : Format → (reference : Picture) → (ℕ → Block) → Picture
picture_of f reference blocks x y =
    reconstructed f.step (blocks (block_of_pixel f x y)).levels
    (predicted reference (4 * (x / 4)) (4 * (y / 4)) (blocks (block_of_pixel f x y)).prediction (x % 4) (y % 4))
    (x % 4) (y % 4)

unfoldable pub shows : Format → (reference : Picture) → Frame → Picture
shows f reference frame = picture_of f reference (frame_block frame)

-- a pixel of the picture
abbrev pub Pixel : Format → (x y : ℕ) → Type 0
Pixel f x y = (x < 4 * f.across) × (y < 4 * f.down)

-- numbers, row by row, hold a picture
pub record Holds (f : Format) (picture : Picture) (pixels : List ℕ) : Type 0 where
  pub long : length pixels ≡ 16 * block_count f
  pub at : (x y : ℕ) → x < 4 * f.across → y < 4 * f.down → picture_in (4 * f.across) pixels x y ≡ picture x y

-- How far a frame is encoded, block by block. Assumes nothing: these are definitions.
use Rattle.std.specs.Prelude.{◌≡◌, ℕ, ◌+◌, ◌*◌, ◌/◌, ◌<◌, ◌≤◌, true, cond, List, ◌==◌, slice_index}
use Rattle.range_coder.specs.Code.{writer_of}
use Rattle.range_coder.specs.Decisions.{start_writer, written}
use Rattle.range_coder.specs.declared.writer.Writer.{Writer}
use Rattle.block.specs.Picture.{Picture, picture_in}
use Rattle.block.specs.Transform.{distance, pixel_in}
use Rattle.block.specs.declared.block.Block.{Block}
use Rattle.frame.specs.Frame.{Format, block_of_pixel, block_predictable, picture_of, plane_size}
use Rattle.frame.specs.Decoding.{Drawn, RowDrawn}
use Rattle.frame.specs.Saying.{SayableBlocks, frame_decisions}
use Rattle.frame.specs.Show.{format_of}
use Rattle.encoder.specs.declared.input.BlockInput.{BlockInput}
use Rattle.encoder.specs.declared.input.FrameInput.{FrameInput}

abbrev pub input_format : FrameInput → Format
input_format input = format_of input.format

-- the source picture, and the reference picture
abbrev pub source_picture : FrameInput → Picture
source_picture input = picture_in (4 * (input_format input).across) input.source.now

abbrev pub reference_picture : FrameInput → Picture
reference_picture input = picture_in (4 * (input_format input).across) input.reference.now

-- block `column` of row `row` of a frame's input
pub record BlockOf (input : FrameInput) (row column : ℕ) (b : BlockInput) : Type 0 where
  pub header : b.header ≡ input.header
  pub step : b.step ≡ input.format.step
  pub pixels : b.reference.pixels.now ≡ input.reference.now
  pub size : b.reference.size ≡ plane_size (input_format input)
  pub left : b.left ≡ 4 * column
  pub top : b.top ≡ 4 * row
  pub source : (x y : ℕ) → x < 4 → y < 4 → pixel_in b.source x y ≡ source_picture input (4 * column + x) (4 * row + y)

-- n blocks were chosen and written
pub record Progress (input : FrameInput) (n : ℕ) (w : Writer) : Type 0 where
  pub blocks : ℕ → Block
  pub said : writer_of w ≡ written (frame_decisions input.header.key blocks n) start_writer
  pub spent : w.bits ≤ 8 + 2192 * n
  pub sayable : SayableBlocks input.header.key blocks n
  pub within : (i : ℕ) → i < n → block_predictable (input_format input) blocks i ≡ true
  pub close : (x y : ℕ) → x < 4 * (input_format input).across → y < 4 * (input_format input).down → block_of_pixel (input_format input) x y < n →
      distance (picture_of (input_format input) (reference_picture input) blocks x y) (source_picture input x y) ≤ (input_format input).step / 2

-- more blocks follow those that there were
abbrev pub Extends : (n : ℕ) → (before after : ℕ → Block) → Type 0
Extends n before after = (i : ℕ) → i < n → before i ≡ after i

-- what chosen blocks make of the reference picture
abbrev pub picture_chosen : FrameInput → (ℕ → Block) → Picture
picture_chosen input blocks = picture_of (input_format input) (reference_picture input) blocks

-- block `column` of row `row` is chosen, written and drawn
pub record BlockEncoded (input : FrameInput) (row column : ℕ) (w w₁ : Writer)
    (p : Progress input (row * (input_format input).across + column) w) (old new : List ℕ) : Type 0 where
  pub next : Progress input (row * (input_format input).across + column + 1) w₁
  pub extends : Extends (row * (input_format input).across + column) p.blocks next.blocks
  pub drawn : (x y : ℕ) → x < 4 * (input_format input).across → y < 4 →
      slice_index new (y * (4 * (input_format input).across) + x)
      ≡ cond (x / 4 == column) (picture_chosen input next.blocks x (4 * row + y)) (slice_index old (y * (4 * (input_format input).across) + x))

-- the first n blocks of row `row` are
pub record RowEncoded (input : FrameInput) (row n : ℕ) (w w₁ : Writer)
    (p : Progress input (row * (input_format input).across) w) (band : List ℕ) : Type 0 where
  pub next : Progress input (row * (input_format input).across + n) w₁
  pub extends : Extends (row * (input_format input).across) p.blocks next.blocks
  pub drawn : RowDrawn (input_format input) (picture_chosen input next.blocks) row n band

-- the first n rows of blocks are
pub record FrameEncoded (input : FrameInput) (n : ℕ) (w : Writer) (pixels : List ℕ) : Type 0 where
  pub next : Progress input (n * (input_format input).across) w
  pub drawn : Drawn (4 * (input_format input).across) (4 * n) (picture_chosen input next.blocks) pixels

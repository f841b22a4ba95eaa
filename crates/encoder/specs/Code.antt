-- What coding a frame answers, and what it leaves. Assumes nothing: these are definitions.
use Rattle.std.specs.Prelude.{◌≡◌, ℕ, ◌+◌, ◌-◌, ◌*◌, ◌/◌, ◌<◌, ◌≤◌, Bool, true, ◌⊎◌, List, length, take, Some, None, Ok, Err, Option, Result, ◌==◌, slice_index}
use Rattle.bits.specs.Bits.{bits_of, zeros}
use Rattle.range_coder.specs.Decisions.{start_reader}
use Rattle.block.specs.Picture.{picture_in}
use Rattle.block.specs.Transform.{distance}
use Rattle.frame.specs.Frame.{Format, Frame, Holds, block_count, past, shows, valid}
use Rattle.frame.specs.Rejection.{format_rejection, or_else, planes_rejection, unless}
use Rattle.frame.specs.Show.{format_of}
use Rattle.frame.specs.declared.rejection.Rejection.{Rejection}
use Rattle.frame.specs.declared.rejection.Rejection.TheVariants.{BufferTooShort, SourceLength}
use Rattle.encoder.specs.declared.input.FrameInput.{FrameInput}

-- how many bytes any frame of a format fits in, whatever blocks are chosen
abbrev pub worst_case : Format → ℕ
worst_case f = 280 * block_count f + 8

-- the frame that bytes are
abbrev pub frame_of : (key : Bool) → List ℕ → Frame
frame_of key bytes = record { header = record { key = key }; bits = bits_of bytes }

-- bytes are a valid frame that shows the picture in the output, which is within half a step of the source;
-- they are the bottom of the last range, with zero bits at the end left off: read as a frame they end at offset 0 with no 1 left over, and the last byte is not 0;
-- and they are no more than the worst case
pub record Coded (f : Format) (key : Bool) (source reference bytes output : List ℕ) : Type 0 where
  pub valid : valid f (frame_of key bytes) ≡ true
  pub holds : Holds f (shows f (picture_in (4 * f.across) reference) (frame_of key bytes)) output
  pub close : (x y : ℕ) → x < 4 * f.across → y < 4 * f.down →
      distance (picture_in (4 * f.across) output x y) (picture_in (4 * f.across) source x y) ≤ f.step / 2
  pub bottom : (past key (start_reader (bits_of bytes)) (block_count f)).decoder.offset ≡ 0
  pub rest : (past key (start_reader (bits_of bytes)) (block_count f)).decoder.rest ≡ zeros
  pub last : (length bytes ≡ 0) ⊎ (0 < slice_index bytes (length bytes - 1))
  pub short : length bytes ≤ worst_case f

-- what pictures can be rejected for, in the order of the checks
abbrev pub pictures_rejection : (pixels : ℕ) → (source reference output : List ℕ) → Option Rejection
pictures_rejection pixels source reference output =
    or_else (planes_rejection pixels reference output) (unless (length source == pixels) (SourceLength (length source)))

abbrev pub code_rejection : Format → (source reference output : List ℕ) → Option Rejection
code_rejection f source reference output = or_else (format_rejection f) (pictures_rejection (16 * block_count f) source reference output)

-- a frame that the source is coded as does not fit in so many bytes
pub record TooShort (f : Format) (key : Bool) (source reference : List ℕ) (room : ℕ) : Type 0 where
  pub bytes : List ℕ
  pub picture : List ℕ
  pub coded : Coded f key source reference bytes picture
  pub longer : room < length bytes

-- a frame is coded, and the buffer is as it was after it; a buffer is called short only where it is shorter than the worst case
-- and than the frame at hand; what is rejected changes nothing
abbrev pub CodeSays : Option Rejection → Format → (key : Bool) → (source reference buffer output : List ℕ) → Result ℕ Rejection → (buffer₁ output₁ : List ℕ) → Type 0
CodeSays (Some e) f key source reference buffer output r buffer₁ output₁ = (r ≡ Err e) × (buffer₁ ≡ buffer) × (output₁ ≡ output)
CodeSays None f key source reference buffer output (Ok n) buffer₁ output₁ =
    (n ≤ length buffer) × (length buffer₁ ≡ length buffer) × ((i : ℕ) → n ≤ i → slice_index buffer₁ i ≡ slice_index buffer i)
    × Coded f key source reference (take n buffer₁) output₁
CodeSays None f key source reference buffer output (Err e) buffer₁ output₁ =
    (e ≡ BufferTooShort (length buffer)) × (length buffer < worst_case f) × (buffer₁ ≡ buffer) × (output₁ ≡ output)
    × TooShort f key source reference (length buffer)

-- the same of a frame's input: what it can be rejected for, and what coding it answers and leaves
abbrev pub input_rejection : FrameInput → (output : List ℕ) → Option Rejection
input_rejection input output = pictures_rejection (16 * block_count (format_of input.format)) input.source.now input.reference.now output

abbrev pub InputCoded : Option Rejection → FrameInput → (buffer output : List ℕ) → Result ℕ Rejection → (buffer₁ output₁ : List ℕ) → Type 0
InputCoded x input buffer output r buffer₁ output₁ =
    CodeSays x (format_of input.format) input.header.key input.source.now input.reference.now buffer output r buffer₁ output₁

-- The format that a header line says, and positions in a whole text. Assumes nothing: these are definitions.
use Rattle.std.specs.Prelude.{◌≡◌, ℕ, ◌+◌, ◌-◌, ◌^◌, min, Ok, Err, Result}
use Rattle.frame.specs.Show.{FormatSays, header_format}
use Rattle.frame.specs.declared.format.Format.{Format}
use Rattle.frame.specs.declared.rejection.Rejection.{Rejection}
use Rattle.frame.specs.declared.rejection.Rejection.TheVariants.{BadText, BlockCount, BufferTooShort, PacketCut, PictureLength, SourceLength, StepRange}
use Rattle.frame.specs.declared.header.VideoHeader.{VideoHeader}

-- a line that says no header is rejected as such, and else the format if it is none
abbrev pub FormatLine : Result VideoHeader Rejection → Result Format Rejection → Type 0
FormatLine (Err e) r = r ≡ Err e
FormatLine (Ok h) r = FormatSays (header_format h) r

-- a position in a line that begins at an offset, as one in the whole text
abbrev pub placed_at : (offset : ℕ) → Rejection → Rejection
placed_at offset (BadText n) = BadText (min (n + offset) (2 ^ 64 - 1))
placed_at offset (BlockCount e) = BlockCount e
placed_at offset StepRange = StepRange
placed_at offset (PictureLength p) = PictureLength p
placed_at offset (SourceLength n) = SourceLength n
placed_at offset (BufferTooShort n) = BufferTooShort n
placed_at offset (PacketCut n) = PacketCut n

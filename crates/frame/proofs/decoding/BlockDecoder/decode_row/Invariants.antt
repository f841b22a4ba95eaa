use Rattle.std.proofs.Common.{◌≡◌, ◌+◌, ◌*◌}
use Rattle.range_coder.specs.Code.{reader_of}
use Rattle.range_coder.specs.Decisions.{ReaderState}
use Rattle.frame.specs.Decoding.{Predictable, RowDrawn, picture_read}
use Rattle.frame.specs.Frame.{past}
use Rattle.frame.specs.Show.{format_of}
use Rattle.frame.proofs.decoding.BlockDecoder.decode_row.Given as goal

abbrev pub invariant-loop-column : goal.invariant-loop-column
invariant-loop-column l =
    (r : ReaderState) → reader_of l.initial.reader ≡ past l.self.key r (l.row * l.self.format.across) →
    (reader_of l.reader ≡ past l.self.key r (l.row * l.self.format.across + l.column))
    × Predictable (format_of l.self.format) l.self.key r (l.row * l.self.format.across) (l.row * l.self.format.across + l.column)
    × RowDrawn (format_of l.self.format) (picture_read (format_of l.self.format) l.self.key r l.self.reference.now) l.row l.column l.band

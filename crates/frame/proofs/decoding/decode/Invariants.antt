use Rattle.std.proofs.Common.{◌≡◌, ◌*◌}
use Rattle.bits.specs.Bits.{bits_of}
use Rattle.range_coder.specs.Code.{reader_of}
use Rattle.range_coder.specs.Decisions.{start_reader}
use Rattle.frame.specs.Decoding.{Drawn, Predictable, picture_read}
use Rattle.frame.specs.Frame.{past}
use Rattle.frame.specs.Show.{format_of}
use Rattle.frame.proofs.decoding.decode.Given as goal

abbrev pub invariant-loop-row : goal.invariant-loop-row
invariant-loop-row l =
    (reader_of l.reader ≡ past l.fn.frame.header.key (start_reader (bits_of l.fn.frame.bytes.now)) (l.row * l.fn.format.across))
    × Predictable (format_of l.fn.format) l.fn.frame.header.key (start_reader (bits_of l.fn.frame.bytes.now)) 0 (l.row * l.fn.format.across)
    × Drawn (4 * l.fn.format.across) (4 * l.row) (picture_read (format_of l.fn.format) l.fn.frame.header.key (start_reader (bits_of l.fn.frame.bytes.now)) l.fn.reference) l.output

use Rattle.std.proofs.Common.{◌*◌}
use Rattle.encoder.specs.Progress.{Progress, RowEncoded}
use Rattle.encoder.proofs.encoding.Row.encode.Given as goal

abbrev pub invariant-loop-column : goal.invariant-loop-column
invariant-loop-column l =
    (p : Progress l.self.frame (l.self.row * l.self.frame.format.across) l.initial.writer) →
    RowEncoded l.self.frame l.self.row l.column l.initial.writer l.writer p l.band

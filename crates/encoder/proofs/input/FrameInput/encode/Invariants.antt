use Rattle.std.proofs.Common.{◌≡◌}
use Rattle.range_coder.specs.Code.{writer_of}
use Rattle.range_coder.specs.Decisions.{start_writer}
use Rattle.encoder.specs.Progress.{FrameEncoded}
use Rattle.encoder.proofs.input.FrameInput.encode.Given as goal

abbrev pub invariant-loop-row : goal.invariant-loop-row
invariant-loop-row l =
    writer_of l.initial.writer ≡ start_writer → l.initial.writer.bits ≡ 8 →
    FrameEncoded l.self l.row l.writer l.output

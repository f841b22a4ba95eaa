use Rattle.symbols.proofs.WriteSteps.{PrefixLeft}
use Rattle.symbols.proofs.writing.write_prefix.Given as goal

abbrev pub invariant-loop-i : goal.invariant-loop-i
invariant-loop-i l = PrefixLeft l.context l.length l.i l.initial.writer l.writer

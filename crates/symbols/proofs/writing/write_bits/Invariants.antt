use Rattle.symbols.proofs.WriteSteps.{BitsLeft}
use Rattle.symbols.proofs.writing.write_bits.Given as goal

abbrev pub invariant-loop-i : goal.invariant-loop-i
invariant-loop-i l = BitsLeft l.count l.value l.i l.initial.writer l.writer

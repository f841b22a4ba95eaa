use Rattle.symbols.proofs.ReadSteps.{PrefixLeft}
use Rattle.symbols.proofs.reading.read_prefix.Given as goal

abbrev pub invariant-loop-k : goal.invariant-loop-k
invariant-loop-k l = PrefixLeft l.context l.k l.initial.reader l.reader

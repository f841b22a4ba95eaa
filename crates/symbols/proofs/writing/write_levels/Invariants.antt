use Rattle.symbols.proofs.WriteSteps.{LevelsLeft}
use Rattle.symbols.proofs.writing.write_levels.Given as goal

abbrev pub invariant-loop-k : goal.invariant-loop-k
invariant-loop-k l = LevelsLeft l.level-items l.k l.initial.writer l.writer

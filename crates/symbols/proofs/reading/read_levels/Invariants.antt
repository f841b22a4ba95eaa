use Rattle.std.proofs.Common.{◌≡◌, length}
use Rattle.symbols.proofs.ReadSteps.{LevelsLeft}
use Rattle.symbols.proofs.reading.read_levels.Given as goal

abbrev pub invariant-loop-k : goal.invariant-loop-k
invariant-loop-k l = LevelsLeft l.k l.level-items l.initial.reader l.reader × (length l.level-items ≡ 16)

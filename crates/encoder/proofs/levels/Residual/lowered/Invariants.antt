use Rattle.encoder.specs.Choice.{ChosenAs}
use Rattle.encoder.proofs.levels.Residual.lowered.Given as goal

abbrev pub invariant-loop-k : goal.invariant-loop-k
invariant-loop-k l = ChosenAs l.self.input l.best

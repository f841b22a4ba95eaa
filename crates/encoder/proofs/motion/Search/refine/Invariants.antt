use Rattle.std.proofs.Common.{◌≡◌}
use Rattle.encoder.proofs.motion.Search.refine.Given as goal

abbrev pub invariant-loop : goal.invariant-loop
invariant-loop l = l.self.input ≡ l.initial.self.input

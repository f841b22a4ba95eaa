use Rattle.std.proofs.Common.{◌≡◌, ◌*◌, ◌^◌, ◌≤◌, nat_abs}
use Rattle.block.proofs.Plain.{sum_below, term}
use Rattle.block.proofs.transform.residual_at.Given as goal

abbrev pub invariant-loop-function : goal.invariant-loop-function
invariant-loop-function l = (l.sum ≡ sum_below (term l.step.value l.level-items l.pixel) l.function) × (nat_abs l.sum ≤ 2 ^ 37 * l.function)

use Rattle.std.proofs.Common.{◌*◌, ◌≤◌, length}
use Rattle.encoder.proofs.motion.difference.Given as goal

abbrev pub invariant-loop-a : goal.invariant-loop-a
invariant-loop-a l = l.sum ≤ 255 * length l.yielded

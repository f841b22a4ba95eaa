use Rattle.std.proofs.Common.{length}
use Rattle.block.proofs.Apart.{CloseBelow}
use Rattle.block.proofs.closeness.is_close.Given as goal

abbrev pub invariant-loop-x : goal.invariant-loop-x
invariant-loop-x l = CloseBelow l.half l.fn.a l.fn.b (length l.yielded) l.close

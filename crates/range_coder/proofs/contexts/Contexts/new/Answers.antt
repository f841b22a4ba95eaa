use Rattle.std.proofs.Common.{arith}
use Rattle.range_coder.proofs.Probabilities.{copies, start_copies}
use Rattle.range_coder.proofs.contexts.Contexts.new.Goals as goal

pub invariant_of-result : goal.invariant_of-result
invariant_of-result c = record { fair = λ d h. rw (copies 64 128 d) (omega arith) }

pub returns : goal.returns
returns c = start_copies 64

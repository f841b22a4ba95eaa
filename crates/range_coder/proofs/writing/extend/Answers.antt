use Rattle.std.proofs.Common.{sym, ◌∙◌, arith}
use Rattle.range_coder.proofs.Coding.{encoder_turn, extended_stays, few_doublings}
use Rattle.range_coder.proofs.writing.extend.Goals as goal

pub overflow_add-doublings : goal.overflow_add-doublings
overflow_add-doublings c = omega (arith, few_doublings _ _ (c.loop-range.invariant.1 0 0))

pub loop-range-preserved : goal.loop-range-preserved
loop-range-preserved c = (
  omega arith,
  λ low length. encoder_turn low c.loop-range.range length c.loop-range.doublings (omega arith) (omega arith) ∙ c.loop-range.invariant.1 low length,
)

pub returns : goal.returns
returns c = record {
  few = omega (arith, few_doublings _ _ (c.loop-range.invariant.1 0 0));
  doubles = λ low length. sym (c.loop-range.invariant.1 low length) ∙ extended_stays 7 _ (omega arith);
}

use Rattle.std.proofs.Common.{sym, ◌∙◌, arith}
use Rattle.bits.specs.Bits.{unread}
use Rattle.bits.proofs.Positions.{bit_small}
use Rattle.range_coder.proofs.Coding.{decoder_turn, renormalised_stays}
use Rattle.range_coder.proofs.decoding.renormalise.Goals as goal

pub overflow_add-offset : goal.overflow_add-offset
overflow_add-offset c = omega (arith, bit_small (unread c.loop-range.cursor 0))

pub loop-range-preserved : goal.loop-range-preserved
loop-range-preserved c = record {
  bytes = c.read-bit.ensures.bytes ∙ c.loop-range.invariant.bytes;
  some = omega arith;
  high = omega arith;
  inside = omega (arith, bit_small (unread c.loop-range.cursor 0));
  same = decoder_turn c.loop-range.range c.loop-range.offset _ (unread c.loop-range.cursor) _
      c.read-bit.ensures.value c.read-bit.ensures.next (omega arith) (omega arith) ∙ c.loop-range.invariant.same;
}

pub returns-clause-is : goal.returns-clause-is
returns-clause-is c = sym (renormalised_stays 7 _ (omega arith)) ∙ c.loop-range.invariant.same

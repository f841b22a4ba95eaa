use Rattle.std.proofs.Common.{arith}
use Rattle.std.proofs.lemmas.Int.{ints}
use Rattle.block.specs.Stages.{positive_at}
use Rattle.block.proofs.Words.{where_negative, where_positive}
use Rattle.block.proofs.transform.level_at.Goals as goal

pub returns-then-is_positive : goal.returns-then-is_positive
returns-then-is_positive c = record {
  value = where_positive (positive_at c.args.function c.args.pixel) c.args.step.value c.args.level c.scaled-amount.result
      c.ranges.level c.scaled-amount.ensures.value c.scaled-amount.ensures.small c.if-is_positive.ensures;
  small = omega (arith, ints);
}

pub returns-else-is_positive : goal.returns-else-is_positive
returns-else-is_positive c = record {
  value = where_negative (positive_at c.args.function c.args.pixel) c.args.step.value c.args.level c.scaled-amount.result
      c.ranges.level c.scaled-amount.ensures.value c.scaled-amount.ensures.small c.if-is_positive.ensures;
  small = omega (arith, ints);
}

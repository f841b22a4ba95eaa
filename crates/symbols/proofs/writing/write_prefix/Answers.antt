use Rattle.std.proofs.Common.{arith}
use Rattle.symbols.proofs.WriteSteps.{prefix_left_more, prefix_left_stops, prefix_left_none}
use Rattle.symbols.proofs.writing.write_prefix.Goals as goal

pub loop-i-preserved : goal.loop-i-preserved
loop-i-preserved c = prefix_left_more c.first_context-context.result c.args.length c.loop-i.i _ _ _ (omega arith) c.requires c.loop-i-test.true c.loop-i.invariant c.adaptive.ensures

pub returns-then-length-lt15 : goal.returns-then-length-lt15
returns-then-length-lt15 c =
    rw (← c.first_context-context.ensures.is) (prefix_left_stops c.first_context-context.result c.args.length c.loop-i.i _ _ _ (omega arith) c.if-length-lt15.true (omega arith) c.loop-i.invariant c.adaptive-then-length-lt15.ensures)

pub returns-else-length-lt15 : goal.returns-else-length-lt15
returns-else-length-lt15 c = rw (← c.first_context-context.ensures.is) (prefix_left_none c.first_context-context.result c.args.length c.loop-i.i _ _ (omega arith) (omega arith) c.loop-i.invariant)

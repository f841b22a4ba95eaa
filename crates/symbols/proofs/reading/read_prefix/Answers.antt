use Rattle.std.proofs.Common.{arith}
use Rattle.symbols.proofs.ReadSteps.{prefix_left_more, prefix_left_stops, prefix_left_none}
use Rattle.symbols.proofs.reading.read_prefix.Goals as goal

pub returns-then-not-adaptive-clause-read : goal.returns-then-not-adaptive-clause-read
returns-then-not-adaptive-clause-read c =
    rw (← c.first_context-context.ensures.is) (prefix_left_stops c.first_context-context.result c.loop-k.k _ _ _ (omega arith) (omega arith) c.loop-k.invariant c.if-not-adaptive.ensures)

pub loop-k-preserved : goal.loop-k-preserved
loop-k-preserved c = prefix_left_more c.first_context-context.result c.loop-k.k _ _ _ (omega arith) (omega arith) c.loop-k.invariant c.if-not-adaptive.ensures

pub returns-clause-read : goal.returns-clause-read
returns-clause-read c = rw (← c.first_context-context.ensures.is) (prefix_left_none c.first_context-context.result c.loop-k.k _ _ (omega arith) c.loop-k.invariant)

use Rattle.std.proofs.Common.{arith}
use Rattle.container.proofs.Groups.{group_last, group_more, varint_more, varint_small, varint_some}
use Rattle.container.proofs.varint.put_varint.Goals as goal

pub bounds-bytes-end : goal.bounds-bytes-end
bounds-bytes-end c = omega (arith, varint_some c.loop-rest.rest)

pub loop-rest-preserved : goal.loop-rest-preserved
loop-rest-preserved c = (
  omega (arith, rw (varint_more c.loop-rest.rest (omega arith)) at c.loop-rest.invariant.0),
  group_more c.loop-rest.bytes _ c.loop-rest.end c.loop-rest.rest (omega arith) (omega (arith, varint_some c.loop-rest.rest)) c.loop-rest.invariant.1,
)

pub bounds-bytes-end-2 : goal.bounds-bytes-end-2
bounds-bytes-end-2 c = omega (arith, varint_some c.loop-rest.rest)

pub returns : goal.returns
returns c = record {
  end = omega (arith, rw (varint_small c.loop-rest.rest (omega arith)) at c.loop-rest.invariant.0);
  bytes = group_last c.loop-rest.bytes _ c.loop-rest.end c.loop-rest.rest (omega arith) (omega (arith, varint_some c.loop-rest.rest)) c.loop-rest.invariant.1;
}

use Rattle.std.proofs.Common.{arith}
use Rattle.symbols.proofs.WriteSteps.{bits_left_more, bits_left_none}
use Rattle.symbols.proofs.writing.write_bits.Goals as goal

pub loop-i-preserved : goal.loop-i-preserved
loop-i-preserved c = bits_left_more c.args.count c.args.value c.loop-i.i _ _ _ c.loop-i-test.true c.loop-i.invariant c.bypass.ensures

pub returns : goal.returns
returns c = bits_left_none c.args.count c.args.value c.loop-i.i _ _ (omega arith) c.loop-i.invariant

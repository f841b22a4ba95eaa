use Rattle.symbols.proofs.ReadSteps.{bits_left_more, bits_left_none, bits_more_below}
use Rattle.symbols.proofs.reading.read_bits.Goals as goal

pub loop-preserved : goal.loop-preserved
loop-preserved c =
    let t = c.bypass.result in (
      bits_left_more c.args.count c.loop.counter c.loop.value _ t _ _ _ c.loop-test.true c.loop.invariant.0 c.bypass.ensures c.from.ensures,
      bits_more_below c.loop.counter c.loop.value _ t c.loop.invariant.1 c.from.ensures,
    )

pub returns-clause-read : goal.returns-clause-read
returns-clause-read c = bits_left_none c.args.count c.loop.counter c.loop.value _ _ c.loop-test.false c.loop.invariant.0

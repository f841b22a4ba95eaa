use Rattle.std.proofs.Common.{[], string_bytes}
use Rattle.text.proofs.Spacing.{write_more, write_done}
use Rattle.text.proofs.writing.push_numbers.Goals as goal

pub loop-number-preserved : goal.loop-number-preserved
loop-number-preserved c =
    write_more (string_bytes c.loop-number.line) _ _ c.args.numbers.now _ c.loop-number.invariant c.loop-number-test.true c.in_ok-write.ensures.bytes

pub returns : goal.returns
returns c = write_done _ [] _ _ _ c.loop-number.invariant c.loop-number-test.false

use Rattle.std.proofs.Common.{sym, ◌∙◌, arith, true-eqb, false-eqb}
use Rattle.text.proofs.Digits.{number_none, number_some, turn_some, turn_none, end_within, end_above}
use Rattle.text.proofs.number.parse_number.Goals as goal

pub returns-then-is_empty : goal.returns-then-is_empty
returns-then-is_empty c = sym (number_none _ _ (true-eqb _ 0 c.if-is_empty.ensures))

pub loop-byte-init : goal.loop-byte-init
loop-byte-init c = number_some _ _ (omega (arith, false-eqb _ 0 c.if-is_empty.ensures))

pub returns-in_err-value : goal.returns-in_err-value
returns-in_err-value c =
    c.from_residual.ensures ∙ sym (c.loop-byte.invariant ∙ turn_none _ _ _ _ (omega arith) c.loop-byte-test.true c.in_err-value.ensures)

pub loop-byte-preserved : goal.loop-byte-preserved
loop-byte-preserved c = c.loop-byte.invariant ∙ turn_some _ _ _ _ (omega arith) c.loop-byte-test.true _ c.in_ok-value.ensures

pub returns-then-value-limit : goal.returns-then-value-limit
returns-then-value-limit c = sym (c.loop-byte.invariant ∙ end_within _ _ _ _ c.loop-byte-test.false c.if-value-limit.true)

pub returns-else-value-limit : goal.returns-else-value-limit
returns-else-value-limit c = sym (c.loop-byte.invariant ∙ end_above _ _ _ _ c.loop-byte-test.false c.if-value-limit.false)

use Rattle.std.proofs.Common.{None, Some, sym, ap, ◌∙◌, arith}
use Rattle.std.proofs.lemmas.Bool.{cond-true, lt-ltb}
use Rattle.pictures.proofs.Digits.{above_zero, number_within, size_is}
use Rattle.pictures.proofs.number.parse_size.Goals as goal

pub returns-in_err-size : goal.returns-in_err-size
returns-in_err-size c = c.from_residual.ensures ∙ ap above_zero c.in_err-size.ensures ∙ sym (size_is c.args.digits.now)

pub overflow_cast-result : goal.overflow_cast-result
overflow_cast-result c = omega (arith, number_within 65535 c.in_ok-size.size c.args.digits.now c.in_ok-size.ensures)

pub returns-in-0 : goal.returns-in-0
returns-in-0 c = ap above_zero (ap Some (sym c.in-0.is) ∙ c.in_ok-size.ensures) ∙ sym (size_is c.args.digits.now)

pub returns-in_default : goal.returns-in_default
returns-in_default c =
    let n = c.in_ok-size.size in
    sym (size_is c.args.digits.now ∙ ap above_zero (sym c.in_ok-size.ensures) ∙ cond-true _ (Some n) None (lt-ltb 0 n (omega arith)))

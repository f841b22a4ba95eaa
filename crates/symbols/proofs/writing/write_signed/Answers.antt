use Rattle.std.proofs.Common.{◌≡◌, ℕ, [], ◌∷◌, ℤ, pos, nat_abs, sym, ap, ◌∙◌, subst, w32, to_z, of_z}
use lib.Signed.{lt_z}
use Rattle.range_coder.specs.Code.{HasWritten}
use Rattle.range_coder.specs.Decisions.{bypass}
use Rattle.range_coder.specs.declared.writer.Writer.{Writer}
use Rattle.std.proofs.lemmas.Int.{to_z-of_z}
use Rattle.symbols.proofs.WriteSteps.{signed_zero, signed_of}
use Rattle.symbols.specs.Saying.{number_decisions}
use Rattle.symbols.proofs.writing.write_signed.Goals as goal

-- the number that was written, under the contract's name for its size
named : (c n : ℕ) (z z₁ : ℤ) (a b : Writer) → n ≡ nat_abs z → z ≡ z₁ → HasWritten 120 (number_decisions c n) a b → HasWritten 120 (number_decisions c (nat_abs z₁)) a b
named c n z z₁ a b e e₁ f = subst (λ ds. HasWritten 120 ds a b) (λ i. number_decisions c ((e ∙ ap nat_abs e₁) i)) f

pub returns-then-value-ne0 : goal.returns-then-value-ne0
returns-then-value-ne0 c =
    let z = c.args.value in
    let e = to_z-of_z w32 z c.ranges.value in
    signed_of _ z _ _ _ (λ zero. c.if-value-ne0.true (ap (of_z w32) zero)) (named _ _ _ _ _ _ c.unsigned_abs.ensures.value e c.write_number.ensures)
    (subst (λ x. HasWritten 1 (bypass (lt_z x (pos 0)) ∷ []) c.write_number.new.writer c.bypass.new.self) e c.bypass.ensures)

pub returns-else-value-ne0 : goal.returns-else-value-ne0
returns-else-value-ne0 c =
    let z = c.args.value in
    let e = to_z-of_z w32 z c.ranges.value in
    signed_zero _ z _ _ (sym e ∙ ap (to_z w32) c.if-value-ne0.false) (named _ _ _ _ _ _ c.unsigned_abs.ensures.value e c.write_number.ensures)

use Rattle.std.proofs.Common.{◌≡◌, ℕ, ◌≤◌, true, false, pos, ◌-ℤ◌, neg_ℤ, subst, arith, w32, to_z, of_z}
use Rattle.range_coder.specs.Code.{HasRead}
use Rattle.std.proofs.lemmas.Int.{ints}
use Rattle.symbols.proofs.ReadSteps.{signed_zero, signed_of}
use Rattle.symbols.specs.Class.{first_context}
use Rattle.symbols.specs.Promise.{largest}
use Rattle.symbols.specs.Reading.{read_signed}
use Rattle.symbols.proofs.reading.read_signed.Goals as goal
use Rattle.symbols.proofs.reading.read_signed.Goals.{else-size-ne0-via-then-size-ne0+else-bypass, else-size-ne0-via-else-size-ne0}

plain : (n : ℕ) → n ≤ largest → pos n ≡ to_z w32 n
plain n h = omega (arith, ints)

negated : (n : ℕ) → n ≤ largest → neg_ℤ (pos n) ≡ to_z w32 (of_z w32 (pos 0 -ℤ to_z w32 n))
negated n h = omega (arith, ints)

pub returns-then-bypass-clause-read : goal.returns-then-bypass-clause-read
returns-then-bypass-clause-read c =
    let n = c.read_number-size in
    subst (HasRead (read_signed (first_context c.args.class)) _ _) (negated n.result n.ensures.small)
    (signed_of _ n.result true _ _ _ n.ensures.read c.if-size-ne0.true c.if-bypass.ensures)

pub returns-else-size-ne0-clause-read : goal.returns-else-size-ne0-clause-read
returns-else-size-ne0-clause-read c =
    let n = c.read_number-size in
    subst (HasRead (read_signed (first_context c.args.class)) _ _) (plain n.result n.ensures.small) (elim c.else-size-ne0.branch [
      | else-size-ne0-via-then-size-ne0+else-bypass w ↦ rw w.reader-is (signed_of _ n.result false _ _ _ n.ensures.read w.if-size-ne0.true w.if-bypass.ensures)
      | else-size-ne0-via-else-size-ne0 w ↦ rw w.reader-is (signed_zero _ n.result _ _ n.ensures.read w.if-size-ne0.false)
    ])

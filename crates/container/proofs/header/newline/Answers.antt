use Rattle.std.proofs.Common.{◌≡◌, ℕ, ◌<◌, cond, eqb, ltb, None, Some, Option, refl, inl, inr, arith, rules, tests}
use Rattle.std.proofs.lemmas.Bool.{cases_lt, le-ltb, lt-ltb}
use Rattle.std.proofs.lemmas.Iterator.{YieldsList-from_slice}
use Rattle.std.proofs.lemmas.Iterator.Search.{position_from_yields_List}
use Rattle.std.specs.Option.{SomeIff}
use Rattle.container.proofs.header.newline.Goals as goal

some_iff : (n m : ℕ) (r : Option ℕ) → r ≡ cond (ltb n m) (Some n) None → SomeIff r (n < m) n
some_iff n m r e = elim (cases_lt n m) [
  | inl l ↦ rw (e, lt-ltb n m l) (l, refl)
  | inr l ↦ rw (e, le-ltb n m l) (λ h. (let f : ⊥ = omega arith in f))
]

pub returns : goal.returns
returns c =
    some_iff _ _ _
    (position_from_yields_List (λ b. eqb b 10) _ _ _ c.position.ensures.ran (YieldsList-from_slice c.args.file.now cc) (λ x b q k. search (rules, tests)))

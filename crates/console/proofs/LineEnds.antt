-- The end of a line is looked for where it was not yet.
use Rattle.std.proofs.Common.{◌≡◌, ℕ, ◌+◌, ◌-◌, ◌<◌, ◌≤◌, ◌==◌, Bool, true, false, ltb, List, length, take, drop, get_or, Some, None, sym, refl, ap, ◌∙◌, arith}
use Rattle.std.proofs.lemmas.Bool.{eqb-false, eqb-true, ltb-false}
use Rattle.std.proofs.lemmas.List.{get_or-drop, length-drop, take_rest}
use Rattle.std.proofs.lemmas.List.Quantifiers.{position-Some}
use Rattle.std.proofs.lemmas.List.Sums.{fails_before_first}
use Rattle.std.proofs.lemmas.Option.{none-some}
use Rattle.std.specs.List.{position, position_or_len}

-- no newline stands before a place
abbrev pub NoneBefore : List ℕ → ℕ → Type 0
NoneBefore bytes end = (k : ℕ) → k < end → get_or bytes k 0 ≡ 10 → ⊥

abbrev pub is_newline : ℕ → Bool
is_newline byte = byte == 10

nowhere : (xs : List ℕ) (early : Bool) → ltb (position_or_len is_newline xs) (length xs) ≡ early → position is_newline xs ≡ None → length xs ≤ position_or_len is_newline xs
nowhere xs true e none = absurd (none-some (position_or_len is_newline xs) (sym none ∙ rw e refl))
nowhere xs false e none = omega (arith, ltb-false _ _ e)

-- the first newline of what stands from a place on
module _ (bytes : List ℕ) (start : ℕ) (within : start ≤ length bytes) where
  abbrev pub rest : List ℕ
  rest = take (length bytes - start) (drop start bytes)

  same : rest ≡ drop start bytes
  same = take_rest bytes start

  at : (k : ℕ) → start ≤ k → get_or rest (k - start) 0 ≡ get_or bytes k 0
  at k s =
      let e : start + (k - start) ≡ k = omega (arith, s) in
      ap (λ xs. get_or xs (k - start) 0) same ∙ get_or-drop start bytes (k - start) 0 ∙ ap (λ n. get_or bytes n 0) e

  long : length rest ≡ length bytes - start
  long = ap length same ∙ length-drop start bytes

  pub before_newline : (i : ℕ) → position is_newline rest ≡ Some i → (k : ℕ) → start ≤ k → k < start + i → get_or bytes k 0 ≡ 10 → ⊥
  before_newline i e k s h t = eqb-false _ _ ((position-Some is_newline rest i 0 e).2 (k - start) (omega (arith, s, h))) (at k s ∙ t)

  pub at_newline : (i : ℕ) → position is_newline rest ≡ Some i → get_or bytes (start + i) 0 ≡ 10
  at_newline i e =
      let back : start + i - start ≡ i = omega arith in
      let s : start ≤ start + i = omega arith in
      sym (at (start + i) s) ∙ ap (λ n. get_or rest n 0) back ∙ eqb-true _ _ (position-Some is_newline rest i 0 e).1

  pub newline_within : (i : ℕ) → position is_newline rest ≡ Some i → start + i < length bytes
  newline_within i e = omega (arith, (position-Some is_newline rest i 0 e).0, long, within)

  pub no_newline : position is_newline rest ≡ None → (k : ℕ) → start ≤ k → k < length bytes → get_or bytes k 0 ≡ 10 → ⊥
  no_newline e k s h t =
      let far : k - start < position_or_len is_newline rest = omega (arith, nowhere rest _ refl e, long, s, h) in
      eqb-false _ _ (fails_before_first is_newline rest (k - start) 0 far) (at k s ∙ t)

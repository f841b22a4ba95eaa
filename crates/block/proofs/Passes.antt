-- A pass transforms each row, which then is a column; two passes transform a block.
use Rattle.std.proofs.Common.{◌≡◌, ℕ, zero, suc, ◌+◌, ◌*◌, ◌/◌, ◌%◌, ◌^◌, ◌<◌, ◌≤◌, List, [], ◌∷◌, get_or, ℤ, pos, ◌+ℤ◌, ◌-ℤ◌, nat_abs, sym, ap, ◌∙◌, add-zero, arith, lit≤, w64, to_z, of_z}
use Rattle.std.proofs.lemmas.Int.{ints}
use Rattle.block.specs.Transform.{inverse_transform, positive, signed, sum4, value_in}
use Rattle.block.specs.Stages.{transform4, Transformed}
use Rattle.block.specs.Promise.{Within}
use Rattle.block.proofs.Inverse.{by_rows, transform4_same}
use Rattle.block.proofs.Near.{transform4_small}

-- what holds of 0, 1, 2 and 3
pub below_four : (P : ℕ → Type 0) → P 0 → P 1 → P 2 → P 3 → (n : ℕ) → n < 4 → P n
below_four P a b c d zero h = a
below_four P a b c d (suc zero) h = b
below_four P a b c d (suc (suc zero)) h = c
below_four P a b c d (suc (suc (suc zero))) h = d
below_four P a b c d (suc (suc (suc (suc n)))) h = absurd (omega arith)

-- a number by way of a machine word
abbrev word : ℤ → ℤ
word z = to_z w64 (of_z w64 z)

-- sums and differences of machine words, which do not overflow
module _ (n : ℕ) (a b r : ℤ) (few : n ≤ 2 ^ 60) (small_a : nat_abs a ≤ n) (small_b : nat_abs b ≤ n) where
  sum_is : r ≡ word a +ℤ word b → (word r ≡ a +ℤ b) × (r ≡ a +ℤ b) × (nat_abs r ≤ 2 * n)
  sum_is e = (omega (arith, ints), omega (arith, ints), omega (arith, ints))

  difference_is : r ≡ word a -ℤ word b → (word r ≡ a -ℤ b) × (r ≡ a -ℤ b) × (nat_abs r ≤ 2 * n)
  difference_is e = (omega (arith, ints), omega (arith, ints), omega (arith, ints))

-- the transform of a row is sums and differences of pairs, and of these again
module _ (rows : List ℤ) (x : ℕ) (hx : x < 4) (small : Within (2 ^ 40) rows) where
  abbrev first : ℤ
  first = get_or rows (4 * x) (pos 0)

  abbrev at : ℕ → ℤ
  at u = get_or rows (4 * x + u) (pos 0)

  at_0 : at 0 ≡ first
  at_0 = rw add-zero

  is₀ : transform4 (λ u. value_in rows u x) 0 ≡ (first +ℤ at 1) +ℤ (at 2 +ℤ at 3)
  unfolding transform4 sum4 signed positive
  is₀ = omega (arith, ints, at_0)

  is₁ : transform4 (λ u. value_in rows u x) 1 ≡ (first -ℤ at 1) +ℤ (at 2 -ℤ at 3)
  unfolding transform4 sum4 signed positive
  is₁ = omega (arith, ints, at_0)

  is₂ : transform4 (λ u. value_in rows u x) 2 ≡ (first +ℤ at 1) -ℤ (at 2 +ℤ at 3)
  unfolding transform4 sum4 signed positive
  is₂ = omega (arith, ints, at_0)

  is₃ : transform4 (λ u. value_in rows u x) 3 ≡ (first -ℤ at 1) -ℤ (at 2 -ℤ at 3)
  unfolding transform4 sum4 signed positive
  is₃ = omega (arith, ints, at_0)

  pub row_is : (s d t e r₀ r₁ r₂ r₃ : ℤ) →
      s ≡ word first +ℤ word (at 1) → d ≡ word first -ℤ word (at 1) → t ≡ word (at 2) +ℤ word (at 3) → e ≡ word (at 2) -ℤ word (at 3) →
      r₀ ≡ word s +ℤ word t → r₂ ≡ word s -ℤ word t → r₁ ≡ word d +ℤ word e → r₃ ≡ word d -ℤ word e →
      (y : ℕ) → y < 4 → get_or (word r₀ ∷ word r₁ ∷ word r₂ ∷ word r₃ ∷ []) y (pos 0) ≡ transform4 (λ u. value_in rows u x) y
  row_is s d t e r₀ r₁ r₂ r₃ hs hd ht he h₀ h₂ h₁ h₃ =
      let small₀ = small (4 * x) (omega arith) in
      let small₁ = small (4 * x + 1) (omega arith) in
      let small₂ = small (4 * x + 2) (omega arith) in
      let small₃ = small (4 * x + 3) (omega arith) in
      let s_is = sum_is (2 ^ 40) first (at 1) s (lit≤ tt) small₀ small₁ hs in
      let d_is = difference_is (2 ^ 40) first (at 1) d (lit≤ tt) small₀ small₁ hd in
      let t_is = sum_is (2 ^ 40) (at 2) (at 3) t (lit≤ tt) small₂ small₃ ht in
      let e_is = difference_is (2 ^ 40) (at 2) (at 3) e (lit≤ tt) small₂ small₃ he in
      below_four (λ y. get_or (word r₀ ∷ word r₁ ∷ word r₂ ∷ word r₃ ∷ []) y (pos 0) ≡ transform4 (λ u. value_in rows u x) y)
      ((sum_is (2 * 2 ^ 40) s t r₀ (lit≤ tt) s_is.2 t_is.2 h₀).0 ∙ rw (s_is.1, t_is.1) (sym is₀))
      ((sum_is (2 * 2 ^ 40) d e r₁ (lit≤ tt) d_is.2 e_is.2 h₁).0 ∙ rw (d_is.1, e_is.1) (sym is₁))
      ((difference_is (2 * 2 ^ 40) s t r₂ (lit≤ tt) s_is.2 t_is.2 h₂).0 ∙ rw (s_is.1, t_is.1) (sym is₂))
      ((difference_is (2 * 2 ^ 40) d e r₃ (lit≤ tt) d_is.2 e_is.2 h₃).0 ∙ rw (d_is.1, e_is.1) (sym is₃))

-- two passes transform a block: rows first, and then columns
pub two_passes : (rows mid out : List ℤ) → Transformed rows mid 4 → Transformed mid out 4 → (x y : ℕ) → x < 4 → y < 4 → value_in out x y ≡ inverse_transform (value_in rows) x y
two_passes rows mid out first second x y hx hy =
    second x y hx hy
    ∙ transform4_same _ (λ v. transform4 (λ u. value_in rows u v) x) y (λ v hv. first v x hv hx)
    ∙ sym (by_rows (value_in rows) x y)

-- a pass makes no value more than four times as large
pub transformed_within : (n : ℕ) (rows out : List ℤ) → Transformed rows out 4 → Within n rows → Within (4 * n) out
transformed_within n rows out is small i hi =
    let place : 4 * (i / 4) + i % 4 ≡ i = omega arith in
    let bound = transform4_small n (λ u. value_in rows u (i % 4)) (i / 4) (λ u hu. small (4 * (i % 4) + u) (omega arith)) in
    omega (arith, ap nat_abs (is (i % 4) (i / 4) (omega arith) (omega arith)), ap (λ k. nat_abs (get_or out k (pos 0))) place)

pub wider : (n m : ℕ) (values : List ℤ) → n ≤ m → Within n values → Within m values
wider n m values h small i hi = omega (arith, small i hi)

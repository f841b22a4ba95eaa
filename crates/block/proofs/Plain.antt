-- The plain sum of sixteen terms, one after the other, is the sum over rows and columns.
use Rattle.std.proofs.Common.{◌≡◌, ℕ, zero, suc, ◌+◌, ◌*◌, ◌/◌, ◌%◌, ◌^◌, ◌<◌, ◌≤◌, Bool, true, false, cond, not, List, get_or, ℤ, pos, ◌+ℤ◌, ◌*ℤ◌, nat_abs, refl, ◌∙◌, add-one, arith, w64, to_z, of_z}
use Rattle.std.proofs.lemmas.Int.{ints}
use Rattle.block.specs.Transform.{inverse_transform, value_in, positive, signed, sum4}
use Rattle.block.specs.Stages.{positive_at}
use Rattle.block.proofs.Inverse.{sum4_same, sum4_swap}

-- the sum of the first n terms
unfoldable pub sum_below : (ℕ → ℤ) → ℕ → ℤ
sum_below f zero = pos 0
sum_below f (suc n) = sum_below f n +ℤ f n

pub sum_none : (f : ℕ → ℤ) → sum_below f 0 ≡ pos 0
unfolding sum_below
sum_none f = refl

sum_more : (f : ℕ → ℤ) (n : ℕ) → sum_below f (n + 1) ≡ sum_below f n +ℤ f n
unfolding sum_below
sum_more f n = rw add-one

four_more : (f : ℕ → ℤ) (n : ℕ) → sum_below f (suc (suc (suc (suc n)))) ≡ sum_below f n +ℤ (f n +ℤ (f (suc n) +ℤ (f (suc (suc n)) +ℤ f (suc (suc (suc n))))))
unfolding sum_below
four_more f n = omega (arith, ints)

sixteen : (f : ℕ → ℤ) → sum_below f 16 ≡ sum4 (λ v. sum4 (λ u. f (4 * v + u)))
unfolding sum4
sixteen f = regrouped _ _ _ _ _ _ _ _ _ (sum_none f) (four_more f 0) (four_more f 4) (four_more f 8) (four_more f 12)
  where
    regrouped : (s₀ s₄ s₈ s₁₂ s₁₆ a b c d : ℤ) → s₀ ≡ pos 0 → s₄ ≡ s₀ +ℤ a → s₈ ≡ s₄ +ℤ b → s₁₂ ≡ s₈ +ℤ c → s₁₆ ≡ s₁₂ +ℤ d → s₁₆ ≡ a +ℤ (b +ℤ (c +ℤ d))
    regrouped s₀ s₄ s₈ s₁₂ s₁₆ a b c d e₀ e₄ e₈ e₁₂ e₁₆ = omega (arith, ints)

signed_at : (a b : Bool) (z : ℤ) → signed (cond a b (not b)) z ≡ signed a (signed b z)
unfolding signed
signed_at true b z = refl
signed_at false true z = refl
signed_at false false z = omega (arith, ints)

-- what level i is at a pixel
abbrev pub term : (step : ℕ) → (levels : List ℤ) → (pixel i : ℕ) → ℤ
term step levels pixel i = signed (positive_at i pixel) (pos step *ℤ get_or levels i (pos 0))

pub plain_sum : (step : ℕ) (levels : List ℤ) (x y : ℕ) → x < 4 → y < 4 → sum_below (term step levels (4 * y + x)) 16 ≡ inverse_transform (λ u v. pos step *ℤ value_in levels u v) x y
unfolding inverse_transform positive_at
plain_sum step levels x y hx hy =
    sixteen (term step levels (4 * y + x))
    ∙ sum4_same _ _ (λ v hv. sum4_same _ _ (λ u hu.
    let u_is : (4 * v + u) % 4 ≡ u = omega arith in
    let v_is : (4 * v + u) / 4 ≡ v = omega arith in
    let x_is : (4 * y + x) % 4 ≡ x = omega arith in
    let y_is : (4 * y + x) / 4 ≡ y = omega arith in
    rw (u_is, v_is, x_is, y_is) (signed_at (positive u x) (positive v y) (pos step *ℤ value_in levels u v))))
    ∙ sum4_swap (λ v u. signed (positive u x) (signed (positive v y) (pos step *ℤ value_in levels u v)))

-- one more term, in machine words
pub term_added : (f : ℕ → ℤ) (n : ℕ) (sum t : ℤ) → n < 16 → t ≡ f n → nat_abs t ≤ 2 ^ 37 → (sum ≡ sum_below f n) × (nat_abs sum ≤ 2 ^ 37 * n) →
    (to_z w64 (of_z w64 (sum +ℤ to_z w64 (of_z w64 t))) ≡ sum_below f (n + 1)) × (nat_abs (to_z w64 (of_z w64 (sum +ℤ to_z w64 (of_z w64 t)))) ≤ 2 ^ 37 * (n + 1))
term_added f n sum t h e small (is, so_far) = (omega (arith, ints, sum_more f n), omega (arith, ints))

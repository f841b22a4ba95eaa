-- A block without levels is its prediction.
use Rattle.std.proofs.Common.{◌≡◌, ℕ, zero, suc, ◌+◌, ◌*◌, ◌≤◌, true, List, [], ◌∷◌, get_or, ℤ, pos, negsuc, ◌+ℤ◌, ◌*ℤ◌, nat_abs, refl, arith}
use Rattle.std.proofs.lemmas.Int.{ints}
use Rattle.block.specs.Syntax.{all_zero, is_zero}
use Rattle.block.specs.Transform.{clipped, floor16, inverse_transform, value_in, reconstructed, residual}
use Rattle.block.proofs.Near.{transform_small}

level_zero : (zs : List ℤ) (k : ℕ) → all_zero zs ≡ true → get_or zs k (pos 0) ≡ pos 0
unfolding all_zero is_zero
level_zero [] k all = refl
level_zero (pos zero ∷ zs) zero all = refl
level_zero (pos zero ∷ zs) (suc k) all = level_zero zs k all
level_zero (pos (suc n) ∷ zs) k all = cc
level_zero (negsuc n ∷ zs) k all = cc

nothing_added : (z : ℤ) (p : ℕ) → nat_abs z ≤ 0 → p ≤ 255 → clipped (pos p +ℤ floor16 (z +ℤ pos 8)) ≡ p
unfolding clipped floor16
nothing_added (pos zero) p none small = omega arith
nothing_added (pos (suc n)) p none small = absurd (let f : ⊥ = omega arith in f)
nothing_added (negsuc n) p none small = absurd (let f : ⊥ = omega arith in f)

pub prediction_kept : (step : ℕ) (levels : List ℤ) (p x y : ℕ) → all_zero levels ≡ true → p ≤ 255 → reconstructed step levels p x y ≡ p
unfolding reconstructed residual
prediction_kept step levels p x y all small =
    nothing_added (inverse_transform (λ u v. pos step *ℤ value_in levels u v) x y) p
    (transform_small 0 (λ u v. pos step *ℤ value_in levels u v) x y (λ u v hu hv. rw (level_zero levels (4 * v + u) all) (omega (arith, ints)))) small

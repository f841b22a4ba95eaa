-- Half a step: what is near stays near under a sign, a sum, the transform, a sixteenth rounded down and clipping.
use Rattle.std.proofs.Common.{◌≡◌, ℕ, ◌+◌, ◌*◌, ◌/◌, ◌<◌, ◌≤◌, Bool, true, false, List, ℤ, pos, negsuc, ◌+ℤ◌, ◌-ℤ◌, ◌*ℤ◌, nat_abs, ◌≤ℤ◌, ◌<ℤ◌, refl, subst, add-mul, mul-le-mul_left, mul-suc, div-le_self, arith, lit<}
use Rattle.std.proofs.lemmas.Int.{ints}
use Rattle.std.specs.Int.{int_div_euclid}
use Rattle.std.proofs.lemmas.Nat.{div_below}
use Rattle.block.specs.Transform.{positive, signed, sum4, floor16, inverse_transform, value_in, clipped, distance, pixel_in, reconstructed, residual}
use Rattle.block.specs.Stages.{difference, nearest, transform4}
use Rattle.block.proofs.Inverse.{by_columns, inverse}

-- y and z are at most h apart
abbrev Near : ℕ → ℤ → ℤ → Type 0
Near h y z = (y ≤ℤ (z +ℤ pos h)) × (z ≤ℤ (y +ℤ pos h))

signed_near : (h : ℕ) (b : Bool) (y z : ℤ) → Near h y z → Near h (signed b y) (signed b z)
unfolding signed
signed_near h true y z n = n
signed_near h false y z n = omega (arith, ints)

sum4_near : (h : ℕ) (f g : ℕ → ℤ) → ((i : ℕ) → i < 4 → Near h (f i) (g i)) → Near (4 * h) (sum4 f) (sum4 g)
unfolding sum4
sum4_near h f g n = omega (arith, ints, n 0 (lit< tt), n 1 (lit< tt), n 2 (lit< tt), n 3 (lit< tt))

signed_size : (b : Bool) (z : ℤ) → nat_abs (signed b z) ≡ nat_abs z
unfolding signed
signed_size true z = refl
signed_size false z = omega (arith, ints)

sum4_small : (n : ℕ) (f : ℕ → ℤ) → ((i : ℕ) → i < 4 → nat_abs (f i) ≤ n) → nat_abs (sum4 f) ≤ 4 * n
unfolding sum4
sum4_small n f small = omega (arith, ints, small 0 (lit< tt), small 1 (lit< tt), small 2 (lit< tt), small 3 (lit< tt))

-- sixteen errors add up
transform_near : (h : ℕ) (b c : ℕ → ℕ → ℤ) (x y : ℕ) → ((u v : ℕ) → u < 4 → v < 4 → Near h (b u v) (c u v)) →
    Near (4 * (4 * h)) (inverse_transform b x y) (inverse_transform c x y)
unfolding inverse_transform
transform_near h b c x y n =
    sum4_near (4 * h) _ _ (λ u hu. sum4_near h (λ v. signed (positive u x) (signed (positive v y) (b u v))) (λ v. signed (positive u x) (signed (positive v y) (c u v)))
    (λ v hv. signed_near h (positive u x) _ _ (signed_near h (positive v y) (b u v) (c u v) (n u v hu hv))))

-- a sum of four is at most four times as large
pub transform4_small : (n : ℕ) (f : ℕ → ℤ) (x : ℕ) → ((u : ℕ) → u < 4 → nat_abs (f u) ≤ n) → nat_abs (transform4 f x) ≤ 4 * n
unfolding transform4
transform4_small n f x small = sum4_small n (λ u. signed (positive u x) (f u)) (λ u hu. omega (arith, signed_size (positive u x) (f u), small u hu))

pub transform_small : (n : ℕ) (c : ℕ → ℕ → ℤ) (x y : ℕ) → ((u v : ℕ) → u < 4 → v < 4 → nat_abs (c u v) ≤ n) → nat_abs (inverse_transform c x y) ≤ 4 * (4 * n)
transform_small n c x y small = rw (by_columns c x y) (transform4_small (4 * n) _ x (λ u hu. transform4_small n (c u) y (λ v hv. small u v hu hv)))

-- a sixteenth rounded down
pub floor16_bounds : (z : ℤ) → ((pos 16 *ℤ floor16 z) ≤ℤ z) × (z <ℤ (pos 16 *ℤ floor16 z +ℤ pos 16))
unfolding floor16
floor16_bounds (pos n) = omega (arith, ints)
floor16_bounds (negsuc n) = omega (arith, ints)

-- a sixteenth to the nearest, of what is within 16 h of 16 d, is within h of d
floor16_near : (h : ℕ) (z d : ℤ) → Near (4 * (4 * h)) z (pos 4 *ℤ (pos 4 *ℤ d)) → Near h (floor16 (z +ℤ pos 8)) d
floor16_near h z d n = omega (arith, ints, floor16_bounds (z +ℤ pos 8))

-- clipping brings a value nearer to any from 0 to 255
clipped_near : (h : ℕ) (z : ℤ) (s : ℕ) → s < 256 → Near h z (pos s) → distance (clipped z) s ≤ h
unfolding distance clipped
clipped_near h (pos n) s k near = omega (arith, ints)
clipped_near h (negsuc n) s k near = omega (arith, ints)

-- a quotient rounded down
divEuclid_bounds : (step : ℕ) (z : ℤ) → 1 ≤ step → ((pos step *ℤ int_div_euclid z (pos step)) ≤ℤ z) × (z <ℤ (pos step *ℤ int_div_euclid z (pos step) +ℤ pos step))
divEuclid_bounds step (pos n) h = omega (arith, ints)
divEuclid_bounds step (negsuc n) h = omega (arith, ints, mul-suc step (n / step))

-- half a step is added before rounding down, so the error is at most that, up or down
pub nearest_near : (step : ℕ) (z : ℤ) → 1 ≤ step → Near (step / 2) (pos step *ℤ nearest step z) z
unfolding nearest
nearest_near step z h = omega (arith, ints, divEuclid_bounds step (z +ℤ pos (step / 2)) h)

-- a step is at least 1, so there are no more steps than units
pub nearest_small : (step n : ℕ) (z : ℤ) → 1 ≤ step → nat_abs z ≤ n → nat_abs (nearest step z) ≤ n
unfolding nearest
nearest_small step n z h small = quotient (z +ℤ pos (step / 2)) (omega (arith, ints)) (omega (arith, ints))
  where
    quotient : (k : ℤ) → k ≤ℤ pos (n + step / 2) → (pos 0 -ℤ pos n) ≤ℤ k → nat_abs (int_div_euclid k (pos step)) ≤ n
    quotient (pos m) most least = omega (arith, div_below m step (n + 1) h (omega (arith, ints, mul-le-mul_left n h, add-mul n 1 step)))
    quotient (negsuc m) most least = omega (arith, ints, div-le_self m step)

-- levels within half a step of the coefficients bring every pixel within half a step:
-- sixteen such errors add up to eight steps, and a sixteenth of that is half a step again
pub levels_close : (step : ℕ) (levels : List ℤ) (prediction source : List ℕ) →
    ((u v : ℕ) → u < 4 → v < 4 → Near (step / 2) (pos step *ℤ value_in levels u v) (inverse_transform (difference prediction source) u v)) →
    (x y : ℕ) → x < 4 → y < 4 → pixel_in source x y < 256 → distance (reconstructed step levels (pixel_in prediction x y) x y) (pixel_in source x y) ≤ step / 2
unfolding reconstructed residual
levels_close step levels prediction source near x y hx hy small =
    let d = difference prediction source in
    let n = transform_near (step / 2) (λ u v. pos step *ℤ value_in levels u v) (inverse_transform d) x y near in
    let m = floor16_near (step / 2) _ (d x y) (subst (Near (4 * (4 * (step / 2))) _) (inverse d x y hx hy) n) in
    clipped_near (step / 2) _ (pixel_in source x y) small (omega (arith, ints))

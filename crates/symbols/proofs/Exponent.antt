-- The exponent of a number: the prefix that says which power of two its suffix starts from.
use Rattle.std.proofs.Common.{◌≡◌, ℕ, zero, suc, ◌*◌, ◌^◌, ◌<◌, ◌≤◌, min, Bool, true, false, leb, refl, arith, pow_mono}
use native.Mathlib.Nat.{pow-succ'}
use Rattle.std.proofs.lemmas.Bool.{leb-true, leb-false, cond_both}
use Rattle.symbols.specs.Saying.{exponent}

pub exponent_most : (n v : ℕ) → exponent n v ≤ n
unfolding exponent
exponent_most zero v = omega arith
exponent_most (suc n) v = cond_both (leb (2 ^ suc n) (suc v)) (suc n) (exponent n v) (λ k. k ≤ suc n) (λ _. omega arith) (λ _. omega (arith, exponent_most n v))

pub exponent_low : (n v : ℕ) → 2 ^ exponent n v ≤ suc v
unfolding exponent
exponent_low zero v = omega arith
exponent_low (suc n) v = cond_both (leb (2 ^ suc n) (suc v)) (suc n) (exponent n v) (λ k. 2 ^ k ≤ suc v) (λ e. leb-true (2 ^ suc n) (suc v) e) (λ _. exponent_low n v)

pub exponent_high : (n v : ℕ) → suc v < 2 * 2 ^ n → suc v < 2 * 2 ^ exponent n v
unfolding exponent
exponent_high zero v h = h
exponent_high (suc n) v h =
    cond_both (leb (2 ^ suc n) (suc v)) (suc n) (exponent n v) (λ k. suc v < 2 * 2 ^ k) (λ _. h)
    (λ e. exponent_high n v (omega (arith, leb-false (2 ^ suc n) (suc v) e, pow-succ' 2 n)))

-- a power of two is at most another only if its exponent is
pow_le : (j k : ℕ) → 2 ^ j < 2 * 2 ^ k → j ≤ k
pow_le j k h = go (leb j k) refl
  where
    go : (t : Bool) → leb j k ≡ t → j ≤ k
    go true e = leb-true j k e
    go false e = absurd (let f : ⊥ = omega (arith, pow_mono {i = suc k} {j = j} (leb-false j k e), pow-succ' 2 k) in f)

-- The exponent is the base 2 logarithm of v + 1, at most n: both are the largest power that is not above it.
pub exponent_is : (n v k : ℕ) → 2 ^ k ≤ suc v → suc v < 2 * 2 ^ k → min k n ≡ exponent n v
unfolding exponent
exponent_is zero v k low high = omega arith
exponent_is (suc n) v k low high =
    cond_both (leb (2 ^ suc n) (suc v)) (suc n) (exponent n v) (λ x. min k (suc n) ≡ x)
    (λ e. omega (arith, pow_le (suc n) k (omega (arith, leb-true (2 ^ suc n) (suc v) e))))
    (λ e. let m = pow_le k n (omega (arith, leb-false (2 ^ suc n) (suc v) e, pow-succ' 2 n)) in omega (arith, exponent_is n v k low high))

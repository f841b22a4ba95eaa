-- What is read stays in its limits, whatever the decisions are: a prefix has at most 15, so that a number is at most
-- 2^15 - 1 and fifteen bits more.
use Rattle.std.proofs.Common.{◌≡◌, ℕ, zero, suc, ◌+◌, ◌*◌, ◌^◌, ◌<◌, ◌≤◌, Bool, true, false, eqb, length, ℤ, pos, neg_ℤ, nat_abs, refl, ap, mul-le-mul_right, mul_assoc, arith, pow_mono}
use native.Mathlib.Nat.{pow-succ'}
use Rattle.bits.specs.Bits.{bit}
use Rattle.range_coder.specs.Decisions.{ReaderState, Read, read_adaptive, read_bypass}
use Rattle.std.proofs.lemmas.Bool.{cond_both}
use Rattle.symbols.specs.Promise.{Sayable, largest}
use Rattle.symbols.specs.Reading.{read_prefix, read_bits, read_number, read_signed, read_levels, level_context}

prefix_most : (n c : ℕ) (r : ReaderState) → (read_prefix n c r).value ≤ n
unfolding read_prefix
prefix_most zero c r = omega arith
prefix_most (suc n) c r =
    cond_both {A = Read ℕ} (read_adaptive c r).value _ _ (λ x. x.value ≤ suc n) (λ _. omega (arith, prefix_most n (suc c) (read_adaptive c r).next)) (λ _. omega arith)

pub bit_most : (b : Bool) → bit b ≤ 1
unfolding bit
bit_most true = omega arith
bit_most false = omega arith

bits_below : (k v : ℕ) (r : ReaderState) → (read_bits k v r).value < suc v * 2 ^ k
unfolding read_bits
bits_below zero v r = omega arith
bits_below (suc k) v r =
    let b = (read_bypass r).value in
    let h = bits_below k (2 * v + bit b) (read_bypass r).next in
    let m : suc (2 * v + bit b) * 2 ^ k ≤ suc v * 2 * 2 ^ k = mul-le-mul_right (2 ^ k) (omega (arith, bit_most b)) in
    rw pow-succ' (omega (arith, mul_assoc (suc v) 2 (2 ^ k)))

-- a prefix of 15 and fifteen true bits say the largest
pub number_most : (c : ℕ) (r : ReaderState) → (read_number c r).value ≤ largest
unfolding read_number
number_most c r =
    let p = read_prefix 15 c r in
    let b = bits_below p.value 0 p.next in
    omega (arith, pow_mono {i = p.value} {j = 15} (prefix_most 15 c r))

neg_same : (n : ℕ) → nat_abs (neg_ℤ (pos n)) ≡ n
neg_same zero = refl
neg_same (suc n) = refl

pub signed_most : (c : ℕ) (r : ReaderState) → nat_abs (read_signed c r).value ≤ largest
unfolding read_signed
signed_most c r =
    let n = read_number c r in
    let h = number_most c r in
    cond_both {A = Read ℤ} (eqb n.value 0) _ _ (λ x. nat_abs x.value ≤ largest) (λ _. omega arith)
    (λ _. cond_both (read_bypass n.next).value _ _ (λ x. nat_abs x ≤ largest) (λ _. omega (arith, neg_same n.value)) (λ _. h))

pub levels_length : (n k : ℕ) (r : ReaderState) → length (read_levels n k r).value ≡ n
unfolding read_levels
levels_length zero k r = refl
levels_length (suc n) k r = ap suc (levels_length n (suc k) (read_signed (level_context k) r).next)

pub levels_sayable : (n k : ℕ) (r : ReaderState) → Sayable (read_levels n k r).value
unfolding read_levels
levels_sayable zero k r i h = absurd (let f : ⊥ = omega arith in f)
levels_sayable (suc n) k r zero h = signed_most (level_context k) r
levels_sayable (suc n) k r (suc i) h = levels_sayable n (suc k) (read_signed (level_context k) r).next i (omega arith)

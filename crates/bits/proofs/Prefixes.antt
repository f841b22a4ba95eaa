-- The number made by the first bits: cut in two, by bytes, and with zero bits after it.
use Rattle.std.proofs.Common.{◌≡◌, ℕ, zero, suc, ◌+◌, ◌-◌, ◌*◌, ◌/◌, ◌^◌, ◌<◌, ◌≤◌, false, List, get_or, sym, refl, ap, ◌∙◌, inl, inr, add-zero, add-suc, arith}
use native.Mathlib.Nat.{pow-succ', div-eq_of_lt}
use Rattle.std.proofs.lemmas.Nat.{shr-shr}
use Rattle.std.proofs.lemmas.Bool.{cases_lt}
use Rattle.bits.specs.Bits.{Bits, bit, bits_of, skip, prefix_value, byte_prefix}
use Rattle.bits.proofs.Positions.{bit_small, bit_zero, bit_in_byte}

pub prefix_split : (m k : ℕ) (bs : Bits) → prefix_value (m + k) bs ≡ prefix_value m bs * 2 ^ k + prefix_value k (skip m bs)
unfolding prefix_value
prefix_split m zero bs = rw (add-zero m) (omega arith)
prefix_split m (suc k) bs = let ih = prefix_split m k bs in rw (add-suc m k, pow-succ' 2 k) (omega arith)

pub prefix_below : (k : ℕ) (bs : Bits) → prefix_value k bs < 2 ^ k
unfolding prefix_value
prefix_below zero bs = omega arith
prefix_below (suc k) bs = let ih = prefix_below k bs in omega (arith, bit_small (bs k))

pub prefix_zero : (k : ℕ) (bs : Bits) → ((j : ℕ) → j < k → bs j ≡ false) → prefix_value k bs ≡ 0
unfolding prefix_value bit
prefix_zero zero bs h = refl
prefix_zero (suc k) bs h = let ih = prefix_zero k bs (λ j l. h j (omega arith)) in rw (h k (omega arith), ih)

pub zero_prefix : (k : ℕ) (bs : Bits) → prefix_value k bs ≡ 0 → (j : ℕ) → j < k → bs j ≡ false
unfolding prefix_value
zero_prefix zero bs e j l = absurd (let f : ⊥ = omega arith in f)
zero_prefix (suc k) bs e j l =
    elim (cases_lt j k) [
      | inl h ↦ zero_prefix k bs (omega arith) j h
      | inr h ↦ (let s : j ≡ k = omega arith in rw s (bit_zero (bs k) (omega arith)))
    ]

-- the first bytes make the same number as their bits

abbrev pub Bytes : List ℕ → Type 0
Bytes xs = (i : ℕ) → get_or xs i 0 < 256

within_byte : (xs : List ℕ) (n j : ℕ) → get_or xs n 0 < 256 → j ≤ 8
    → prefix_value (8 * n + j) (bits_of xs) ≡ prefix_value (8 * n) (bits_of xs) * 2 ^ j + get_or xs n 0 / 2 ^ (8 - j)
unfolding prefix_value
within_byte xs n zero h l = rw (add-zero (8 * n), div-eq_of_lt h) (omega arith)
within_byte xs n (suc j) h l =
    let g : ℕ = get_or xs n 0 in
    let e : 8 - j ≡ (7 - j) + 1 = omega arith in
    let f : 8 - suc j ≡ 7 - j = omega arith in
    let ih = within_byte xs n j h (omega arith) in
    let d : g / 2 ^ (8 - j) ≡ g / 2 ^ (7 - j) / 2 = ap (λ k. g / 2 ^ k) e ∙ sym (shr-shr g (7 - j) 1) in
    let b = bit_in_byte xs n j (omega arith) in
    rw (add-suc (8 * n) j, f, pow-succ' 2 j) (omega arith)

pub prefix_bytes : (xs : List ℕ) → Bytes xs → (n : ℕ) → prefix_value (8 * n) (bits_of xs) ≡ byte_prefix n xs
unfolding byte_prefix prefix_value
prefix_bytes xs h zero = refl
prefix_bytes xs h (suc n) =
    let e : 8 * suc n ≡ 8 * n + 8 = omega arith in
    let ih = prefix_bytes xs h n in
    let b = within_byte xs n 8 (h n) (omega arith) in
    rw e (omega arith)

pub first_byte : (xs : List ℕ) → Bytes xs → prefix_value 8 (bits_of xs) ≡ get_or xs 0 0
unfolding byte_prefix
first_byte xs h = prefix_bytes xs h 1 ∙ (let e : 256 * 0 + get_or xs 0 0 ≡ get_or xs 0 0 = omega arith in e)

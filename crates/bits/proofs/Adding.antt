-- Adding to the number that the first bytes make: a byte keeps its sum's low eight bits, and the rest is carried to the byte before.
use Rattle.std.proofs.Common.{◌≡◌, ℕ, zero, suc, ◌+◌, ◌-◌, ◌*◌, ◌/◌, ◌%◌, ◌^◌, ◌<◌, ◌≤◌, false, ◌≢◌, List, length, get_or, set, sym, refl, ap, ◌∙◌, inl, inr, add-zero, add-suc, mul-lt-mul_of_pos_right, arith}
use native.Mathlib.Nat.{pow-succ', div-add-mod}
use lib.Arith.{digits_div}
use Rattle.std.proofs.lemmas.Nat.{pow-add, pow_pos}
use Rattle.std.proofs.lemmas.Bool.{cases_lt}
use Rattle.std.proofs.lemmas.List.{get_or-set_same, get_or-set_other}
use Rattle.bits.specs.Bits.{bits_of, skip, prefix_value, byte_prefix}
use Rattle.bits.proofs.Positions.{bit_same}
use Rattle.bits.proofs.Prefixes.{Bytes, prefix_split, prefix_below, prefix_zero, zero_prefix, prefix_bytes}

prefix_before : (xs : List ℕ) (i v n : ℕ) → n ≤ i → byte_prefix n (set xs i v) ≡ byte_prefix n xs
unfolding byte_prefix
prefix_before xs i v zero h = refl
prefix_before xs i v (suc n) h =
    let ne : n ≢ i = omega arith in
    rw (prefix_before xs i v n (omega arith), get_or-set_other)

prefix_set : (xs : List ℕ) (i v d : ℕ) → i < length xs
    → byte_prefix (suc (i + d)) (set xs i v) + get_or xs i 0 * 256 ^ d ≡ byte_prefix (suc (i + d)) xs + v * 256 ^ d
unfolding byte_prefix
prefix_set xs i v zero h =
    rw (add-zero i, prefix_before xs i v i (omega arith), get_or-set_same xs i v 0 h) (omega arith)
prefix_set xs i v (suc d) h =
    let ih = prefix_set xs i v d h in
    let ne : suc (i + d) ≢ i = omega arith in
    rw (add-suc i d, get_or-set_other xs i (suc (i + d)) v 0 ne, pow-succ' 256 d) (omega arith)

-- one byte of the sum
add_turn : (xs : List ℕ) (i d c : ℕ) → i < length xs
    → byte_prefix (suc (i + d)) (set xs i ((get_or xs i 0 + c) % 256)) + (get_or xs i 0 + c) / 256 * 256 ^ suc d
    ≡ byte_prefix (suc (i + d)) xs + c * 256 ^ d
add_turn xs i d c h =
    let sum : ℕ = get_or xs i 0 + c in
    let W : ℕ = 256 ^ d in
    let s = prefix_set xs i (sum % 256) d h in
    let e : (256 * (sum / 256) + sum % 256) * W ≡ sum * W = ap (λ x. x * W) (div-add-mod sum 256) in
    rw (pow-succ' 256 d) (omega arith)

-- the turn of the loop that adds, at place i of the bytes up to `last`
pub add_at_place : (xs : List ℕ) (i last c : ℕ) → i ≤ last → i < length xs
    → byte_prefix (last + 1) (set xs i ((get_or xs i 0 + c) % 256)) + (get_or xs i 0 + c) / 256 * 256 ^ (last + 1 - i)
    ≡ byte_prefix (last + 1) xs + c * 256 ^ (last - i)
add_at_place xs i last c h l =
    let n : last + 1 ≡ suc (i + (last - i)) = omega arith in
    let d : last + 1 - i ≡ suc (last - i) = omega arith in
    rw (d, n) (add_turn xs i (last - i) c l)

-- what is carried past the first byte is lost, so there is nothing to carry where the sum fits
pub no_carry : (x y c n : ℕ) → x + c * 256 ^ n ≡ y → y < 256 ^ n → x ≡ y
no_carry x y zero n e h = omega arith
no_carry x y (suc c) n e h = absurd (let f : ⊥ = omega arith in f)

-- ADDING AT A BIT: the sum is added in the bytes up to the one that holds bit n - 1, with zero bits after it

pow_bytes : (m : ℕ) → 256 ^ m ≡ 2 ^ (8 * m)
pow_bytes zero = refl
pow_bytes (suc m) =
    let e : 8 * suc m ≡ 8 + 8 * m = omega arith in
    let ih = pow_bytes m in
    rw (pow-succ' 256 m, e, pow-add 2 8 (8 * m), ih)

-- a number that ends in k zero bits has only one reading as a front and k bits
same_front : (p q r m : ℕ) → r < m → p * m + r ≡ q * m → (p ≡ q) × (r ≡ 0)
same_front p q r m h e =
    let z : q * m + 0 ≡ q * m = omega arith in
    let s : p ≡ q = sym (digits_div p h) ∙ ap (λ x. x / m) (e ∙ sym z) ∙ digits_div q (omega arith) in
    (s, (let f : p * m ≡ q * m = ap (λ x. x * m) s in omega arith))

module _ (xs : List ℕ) (n last s : ℕ) (within : n ≤ 8 * (last + 1)) (below : Bytes xs)
    (clean : (j : ℕ) → n ≤ j → bits_of xs j ≡ false) where
  byte_prefix_clean : byte_prefix (last + 1) xs ≡ prefix_value n (bits_of xs) * 2 ^ (8 * (last + 1) - n)
  byte_prefix_clean =
      let k : ℕ = 8 * (last + 1) - n in
      let e : 8 * (last + 1) ≡ n + k = omega arith in
      let z = prefix_zero k (skip n (bits_of xs)) (λ j l. clean (n + j) (omega arith)) in
      sym (prefix_bytes xs below (last + 1)) ∙ ap (λ m. prefix_value m (bits_of xs)) e ∙ prefix_split n k (bits_of xs)
      ∙ (let f : prefix_value n (bits_of xs) * 2 ^ k + prefix_value k (skip n (bits_of xs)) ≡ prefix_value n (bits_of xs) * 2 ^ k = omega arith in f)

  -- the sum does not carry past the first byte
  pub add_fits : prefix_value n (bits_of xs) + s < 2 ^ n → byte_prefix (last + 1) xs + s * 2 ^ (8 * (last + 1) - n) < 256 ^ (last + 1)
  add_fits h =
      let k : ℕ = 8 * (last + 1) - n in
      let e : 8 * (last + 1) ≡ n + k = omega arith in
      let m : (prefix_value n (bits_of xs) + s) * 2 ^ k < 2 ^ n * 2 ^ k = mul-lt-mul_of_pos_right h (pow_pos k) in
      let w : 256 ^ (last + 1) ≡ 2 ^ n * 2 ^ k = pow_bytes (last + 1) ∙ ap (λ j. 2 ^ j) e ∙ pow-add 2 n k in
      rw (w, byte_prefix_clean) (omega arith)

  module _ (ys : List ℕ) (below₁ : Bytes ys) (sum : byte_prefix (last + 1) ys ≡ byte_prefix (last + 1) xs + s * 2 ^ (8 * (last + 1) - n))
      (after : (i : ℕ) → last < i → get_or ys i 0 ≡ get_or xs i 0) where
    front : (prefix_value n (bits_of ys) ≡ prefix_value n (bits_of xs) + s) × (prefix_value (8 * (last + 1) - n) (skip n (bits_of ys)) ≡ 0)
    front =
        let k : ℕ = 8 * (last + 1) - n in
        let e : 8 * (last + 1) ≡ n + k = omega arith in
        let w = sym (prefix_split n k (bits_of ys)) ∙ ap (λ m. prefix_value m (bits_of ys)) (sym e) ∙ prefix_bytes ys below₁ (last + 1) ∙ sum in
        same_front (prefix_value n (bits_of ys)) (prefix_value n (bits_of xs) + s) (prefix_value k (skip n (bits_of ys))) (2 ^ k)
        (prefix_below k (skip n (bits_of ys))) (w ∙ rw byte_prefix_clean (omega arith))

    pub added_sum : prefix_value n (bits_of ys) ≡ prefix_value n (bits_of xs) + s
    added_sum = front.0

    pub added_clean : (j : ℕ) → n ≤ j → bits_of ys j ≡ false
    added_clean j h = elim (cases_lt j (8 * (last + 1))) [
      | inl l ↦ (let e : n + (j - n) ≡ j = omega arith in
          rw e at (zero_prefix (8 * (last + 1) - n) (skip n (bits_of ys)) front.1 (j - n) (omega arith)))
      | inr l ↦ bit_same ys xs j (after (j / 8) (omega arith)) ∙ clean j h
    ]

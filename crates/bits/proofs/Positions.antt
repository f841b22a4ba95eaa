-- The bits of bytes by their positions: past the last byte they are 0, and zero bytes at the end change none of them.
use Rattle.std.proofs.Common.{◌≡◌, ℕ, zero, suc, ◌+◌, ◌-◌, ◌*◌, ◌/◌, ◌%◌, ◌^◌, ◌<◌, ◌≤◌, Bool, true, false, eqb, List, length, get_or, take, sym, refl, ap, ◌∙◌, inl, inr, arith}
use mathlib.Core.Path.{fun_ext}
use native.Mathlib.Nat.{zero-div}
use Rattle.std.proofs.lemmas.List.{get_or_past, get_or-take, length-take}
use Rattle.std.proofs.lemmas.Bool.{cases_lt}
use Rattle.bits.specs.Bits.{bit, bits_of, skip}

pub bit_small : (b : Bool) → bit b ≤ 1
unfolding bit
bit_small true = omega arith
bit_small false = omega arith

-- a binary digit as a bit, and back
pub bit_digit : (x : ℕ) → x < 2 → bit (eqb x 1) ≡ x
unfolding bit
bit_digit zero h = refl
bit_digit (suc zero) h = refl
bit_digit (suc (suc x)) h = absurd (let f : ⊥ = omega arith in f)

pub bit_zero : (b : Bool) → bit b ≡ 0 → b ≡ false
unfolding bit
bit_zero true h = absurd (let f : ⊥ = omega arith in f)
bit_zero false h = refl

-- the bit at place r of byte q is that digit of the byte
pub bit_in_byte : (bytes : List ℕ) (q r : ℕ) → r < 8 → bit (bits_of bytes (8 * q + r)) ≡ get_or bytes q 0 / 2 ^ (7 - r) % 2
unfolding bits_of
bit_in_byte bytes q r h =
    let d : (8 * q + r) / 8 ≡ q = omega arith in
    let m : (8 * q + r) % 8 ≡ r = omega arith in
    rw (d, m) (bit_digit (get_or bytes q 0 / 2 ^ (7 - r) % 2) (omega arith))

pub bit_of_zero : (bytes : List ℕ) (n : ℕ) → get_or bytes (n / 8) 0 ≡ 0 → bits_of bytes n ≡ false
unfolding bits_of
bit_of_zero bytes n h = rw (h, zero-div (2 ^ (7 - n % 8)))

pub bit_past : (bytes : List ℕ) (n : ℕ) → 8 * length bytes ≤ n → bits_of bytes n ≡ false
bit_past bytes n h = bit_of_zero bytes n (get_or_past bytes (n / 8) 0 (omega arith))

pub bits_past : (bytes : List ℕ) (n : ℕ) → 8 * length bytes ≤ n → skip n (bits_of bytes) ≡ skip 1 (skip n (bits_of bytes))
bits_past bytes n h = fun_ext (λ k. bit_past bytes (n + k) (omega arith) ∙ sym (bit_past bytes (n + (1 + k)) (omega arith)))

-- bits are the same where the bytes are
pub bit_same : (xs ys : List ℕ) (n : ℕ) → get_or xs (n / 8) 0 ≡ get_or ys (n / 8) 0 → bits_of xs n ≡ bits_of ys n
unfolding bits_of
bit_same xs ys n h = ap (λ x. eqb (x / 2 ^ (7 - n % 8) % 2) 1) h

-- bytes past the last 1 bit can be left off
pub bits_of_take : (bytes : List ℕ) (k : ℕ) → ((n : ℕ) → 8 * k ≤ n → bits_of bytes n ≡ false) → bits_of (take k bytes) ≡ bits_of bytes
bits_of_take bytes k clean = fun_ext (λ n. elim (cases_lt n (8 * k)) [
  | inl h ↦ bit_same (take k bytes) bytes n (get_or-take k bytes (n / 8) 0 (omega arith))
  | inr h ↦ bit_past (take k bytes) n (simp length-take (omega arith)) ∙ sym (clean n h)
])

-- and so can a last byte that is zero
pub last_byte_zero : (bytes : List ℕ) → get_or bytes (length bytes - 1) 0 ≡ 0 → bits_of (take (length bytes - 1) bytes) ≡ bits_of bytes
last_byte_zero bytes z = bits_of_take bytes (length bytes - 1) (λ n h. bit_of_zero bytes n (elim (cases_lt (n / 8) (length bytes)) [
  | inl l ↦ (let e : n / 8 ≡ length bytes - 1 = omega arith in rw e z)
  | inr l ↦ get_or_past bytes (n / 8) 0 l
]))

-- The bottom of the range, kept in bytes with zero bits after it: raised by a split, and doubled as more of those zero bits count.
use Rattle.std.proofs.Common.{◌≡◌, ℕ, ◌+◌, ◌-◌, ◌*◌, ◌/◌, ◌%◌, ◌^◌, ◌<◌, ◌≤◌, Bool, true, false, List, get_or, replicate, sym, ap, ◌∙◌, subst, arith}
use Rattle.std.proofs.lemmas.Nat.{shl_whole}
use Rattle.bits.specs.Bits.{bits_of, skip, prefix_value, byte_prefix}
use Rattle.bits.proofs.Positions.{bit_of_zero}
use Rattle.bits.proofs.Prefixes.{Bytes, prefix_split, prefix_zero}
use Rattle.bits.proofs.Adding.{add_fits, added_sum, added_clean}
use Rattle.range_coder.specs.Code.{encoder_in, writer_of}
use Rattle.range_coder.specs.Coding.{EncoderState, split, encoded, extended, narrowed}
use Rattle.range_coder.specs.Store.{stored}
use Rattle.range_coder.specs.declared.writer.Writer.{Writer}
use Rattle.range_coder.proofs.Coding.{Sound, encoded_sound, bypass_spends}
use Rattle.range_coder.proofs.Probabilities.{copies}

-- the bits from n on are 0
abbrev pub Clean : List ℕ → ℕ → Type 0
Clean xs n = (j : ℕ) → n ≤ j → bits_of xs j ≡ false

-- a split, shifted to stand at bit n of its byte, as the code computes it
shifted : (n s : ℕ) → 1 ≤ n → s ≤ 255 → (s * 2 ^ (7 - (n - 1) % 8)) % 2 ^ 64 ≡ s * 2 ^ (8 * ((n - 1) / 8 + 1) - n)
shifted n s h q =
    let e : 7 - (n - 1) % 8 ≡ 8 * ((n - 1) / 8 + 1) - n = omega arith in
    shl_whole s 8 (7 - (n - 1) % 8) 64 (omega arith) (omega arith) ∙ ap (λ k. s * 2 ^ k) e

pub raised : (xs ys : List ℕ) (n s : ℕ) → 1 ≤ n → s ≤ 255 → Bytes xs → Bytes ys → Clean xs n → prefix_value n (bits_of xs) + s < 2 ^ n
    → (byte_prefix ((n - 1) / 8 + 1) xs + (s * 2 ^ (7 - (n - 1) % 8)) % 2 ^ 64 < 256 ^ ((n - 1) / 8 + 1)
    → byte_prefix ((n - 1) / 8 + 1) ys ≡ byte_prefix ((n - 1) / 8 + 1) xs + (s * 2 ^ (7 - (n - 1) % 8)) % 2 ^ 64)
    → ((i : ℕ) → (n - 1) / 8 < i → get_or ys i 0 ≡ get_or xs i 0)
    → (prefix_value n (bits_of ys) ≡ prefix_value n (bits_of xs) + s) × Clean ys n
raised xs ys n s some small bx by clean fits sum after =
    let last : ℕ = (n - 1) / 8 in
    let e = shifted n s some small in
    let w : n ≤ 8 * (last + 1) = omega arith in
    let f = add_fits xs n last s w bx clean fits in
    let sum₁ = sum (rw e f) ∙ ap (λ x. byte_prefix (last + 1) xs + x) e in
    (added_sum xs n last s w bx clean ys by sum₁ after, added_clean xs n last s w bx clean ys by sum₁ after)

pub narrows_true : (xs ys : List ℕ) (n range p s : ℕ) (b : Bool) → b ≡ true → s ≡ split range p
    → prefix_value n (bits_of ys) ≡ prefix_value n (bits_of xs) + s → encoder_in ys n (range - s) ≡ narrowed p b (encoder_in xs n range)
unfolding narrowed
narrows_true xs ys n range p s b t e sum =
    let low = sum ∙ ap (λ x. prefix_value n (bits_of xs) + x) e in
    rw t (λ i. record { low = low i; range = range - e i; length = n })

pub narrows_false : (xs : List ℕ) (n range p s : ℕ) (b : Bool) → b ≡ false → s ≡ split range p
    → encoder_in xs n s ≡ narrowed p b (encoder_in xs n range)
unfolding narrowed
narrows_false xs n range p s b t e = rw t (ap (encoder_in xs n) e)

-- A DECISION IS WRITTEN: the range is narrowed, and then doubled d times, which changes no byte since zero bits follow

pub record Wrote (p : ℕ) (b : Bool) (w : Writer) (bytes : List ℕ) (bits range : ℕ) : Type 0 where
  pub same : encoder_in bytes bits range ≡ encoded p b (writer_of w).encoder
  pub sound : Sound (encoder_in bytes bits range)
  pub clean : Clean bytes bits
  pub once : p ≡ 128 → bits ≤ w.bits + 1

pub wrote : (p : ℕ) (b : Bool) (w : Writer) (room bytes : List ℕ) (part range d : ℕ) → p ≤ 255
    → bits_of room ≡ bits_of (stored w.store) → encoder_in bytes w.bits part ≡ narrowed p b (encoder_in room w.bits w.range) → Clean bytes w.bits
    → ((low length : ℕ) → extended 7 (record { low = low; range = part; length = length }) ≡ record { low = low * 2 ^ d; range = range; length = length + d })
    → Wrote p b w bytes (w.bits + d) range
unfolding encoded
wrote p b w room bytes part range d q grown narrow clean extend =
    let e : EncoderState = (writer_of w).encoder in
    let n : ℕ = w.bits in
    let z = prefix_zero d (skip n (bits_of bytes)) (λ j _. clean (n + j) (omega arith)) in
    let low : prefix_value (n + d) (bits_of bytes) ≡ prefix_value n (bits_of bytes) * 2 ^ d = prefix_split n d (bits_of bytes) ∙ rw z (omega arith) in
    let narrow₁ : encoder_in bytes n part ≡ narrowed p b e = narrow ∙ ap (λ bs. narrowed p b (record { low = prefix_value n bs; range = w.range; length = n })) grown in
    let same : encoder_in bytes (n + d) range ≡ encoded p b e =
    (λ i. record { low = low i; range = range; length = n + d }) ∙ sym (extend (prefix_value n (bits_of bytes)) n) ∙ ap (extended 7) narrow₁ in
    record {
      same = same;
      sound = subst Sound (sym same) (encoded_sound p b e q (record { low = w.low; high = w.high; top = w.top }));
      clean = λ j h. clean j (omega arith);
      once = λ h. omega (arith, ap (λ x. x.length) (same ∙ ap (λ x. encoded x b e) h), bypass_spends b e w.low);
    }

-- AT THE START every bit is 0

pub zeros_clean : (n : ℕ) (j : ℕ) → bits_of (replicate n 0) j ≡ false
zeros_clean n j = bit_of_zero (replicate n 0) j (copies n 0 (j / 8))

pub zeros_prefix : (n k : ℕ) → prefix_value k (bits_of (replicate n 0)) ≡ 0
zeros_prefix n k = prefix_zero k (bits_of (replicate n 0)) (λ j _. zeros_clean n j)

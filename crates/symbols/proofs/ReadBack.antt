-- A symbol that was said is read back: a reader that gives its decisions reads it, and stands after them.
use Rattle.std.proofs.Common.{◌≡◌, ℕ, zero, suc, ◌+◌, ◌-◌, ◌*◌, ◌/◌, ◌%◌, ◌^◌, ◌<◌, ◌≤◌, Bool, false, cond, eqb, List, [], ◌∷◌, length, ℤ, pos, negsuc, neg_ℤ, nat_abs, sym, refl, ap, ◌∙◌, mod-eq_of_lt, arith, pow_pos}
use native.Mathlib.Nat.{pow-succ', mod-one}
use lib.Arith.{mod-mul}
use Rattle.bits.specs.Bits.{bit}
use Rattle.range_coder.proofs.Decisions.{gives_front, gives_back, after_append}
use Rattle.range_coder.specs.Decisions.{ReaderState, Read, Gives, after, read_adaptive, read_bypass}
use Rattle.std.proofs.lemmas.Bool.{ne_eqb}
use Rattle.symbols.proofs.Exponent.{exponent_most, exponent_low, exponent_high}
use Rattle.symbols.specs.Promise.{Sayable, largest}
use Rattle.symbols.specs.Reading.{read_prefix, read_bits, read_number, read_signed, read_levels, level_context}
use Rattle.symbols.specs.Saying.{prefix_decisions, bits_decisions, exponent, number_decisions, sign_decisions, signed_decisions, levels_decisions}

-- each true one is read as one more, and the false one, or having as many as can be, ends them
prefix_read_back : (n k c : ℕ) (r : ReaderState) → k ≤ n → Gives r (prefix_decisions n k c) → read_prefix n c r ≡ record { value = k; next = after r (prefix_decisions n k c) }
unfolding read_prefix prefix_decisions after
prefix_read_back zero zero c r h g = refl
prefix_read_back zero (suc k) c r h g = absurd (let f : ⊥ = omega arith in f)
prefix_read_back (suc n) zero c r h g = rw g.0
prefix_read_back (suc n) (suc k) c r h g =
    rw g.0 (ap (λ x. record { value = suc x.value; next = x.next }) (prefix_read_back n k (suc c) (read_adaptive c r).next (omega arith) g.1))

bit_of_remainder : (x : ℕ) → x < 2 → bit (eqb x 1) ≡ x
unfolding bit
bit_of_remainder zero h = refl
bit_of_remainder (suc zero) h = refl
bit_of_remainder (suc (suc x)) h = absurd (let f : ⊥ = omega arith in f)

-- one bit more of v, after those of s
one_bit : (k v s : ℕ) (b : Bool) → b ≡ eqb (v / 2 ^ k % 2) 1 → (2 * s + bit b) * 2 ^ k + v % 2 ^ k ≡ s * 2 ^ suc k + v % 2 ^ suc k
one_bit k v s b e =
    let d : bit b ≡ v / 2 ^ k % 2 = ap bit e ∙ bit_of_remainder (v / 2 ^ k % 2) (omega arith) in
    let m = mod-mul v {m = 2} {c = 2 ^ k} (omega arith) (pow_pos k) in
    let p : (2 * s + bit b) * 2 ^ k ≡ (2 * s + v / 2 ^ k % 2) * 2 ^ k = ap (λ x. (2 * s + x) * 2 ^ k) d in
    rw pow-succ' (omega arith)

-- the low k bits of v are read after those of s
bits_read_on : (k v s : ℕ) (r : ReaderState) → Gives r (bits_decisions k v) → read_bits k s r ≡ record { value = s * 2 ^ k + v % 2 ^ k; next = after r (bits_decisions k v) }
unfolding read_bits bits_decisions after
bits_read_on zero v s r g = ap (λ x. record { value = x; next = r }) (let m = mod-one v in omega arith)
bits_read_on (suc k) v s r g =
    bits_read_on k v (2 * s + bit (read_bypass r).value) (read_bypass r).next g.1
    ∙ ap (λ x. record { value = x; next = after (read_bypass r).next (bits_decisions k v) }) (one_bit k v s (read_bypass r).value g.0)

-- v has no more than k bits, so that its low k bits are all of it
pub bits_read_back : (k v : ℕ) (r : ReaderState) → v < 2 ^ k → Gives r (bits_decisions k v) → read_bits k 0 r ≡ record { value = v; next = after r (bits_decisions k v) }
bits_read_back k v r h g =
    bits_read_on k v 0 r g ∙ ap (λ x. record { value = x; next = after r (bits_decisions k v) }) (let m = mod-eq_of_lt {n = v} {m = 2 ^ k} h in omega arith)

-- the prefix is the exponent, and the suffix what v + 1 is above its power of two
number_read_back : (c v : ℕ) (r : ReaderState) → v ≤ largest → Gives r (number_decisions c v) → read_number c r ≡ record { value = v; next = after r (number_decisions c v) }
unfolding read_number number_decisions
number_read_back c v r h g =
    let k = exponent 15 v in
    let u = suc v - 2 ^ k in
    let ps = prefix_decisions 15 k c in
    let p = prefix_read_back 15 k c r (exponent_most 15 v) (gives_front r ps (bits_decisions k u) g) in
    let low = exponent_low 15 v in
    let small : u < 2 ^ k = omega (arith, exponent_high 15 v (omega arith)) in
    let b = bits_read_back k u (after r ps) small (gives_back r ps (bits_decisions k u) g) in
    ap (λ x. record { value = 2 ^ x.value - 1 + (read_bits x.value 0 x.next).value; next = (read_bits x.value 0 x.next).next }) p
    ∙ ap (λ x. record { value = 2 ^ k - 1 + x.value; next = x.next }) b
    ∙ (λ i. record { value = sum k low i; next = sym (after_append r ps (bits_decisions k u)) i })
  where
    sum : (k : ℕ) → 2 ^ k ≤ suc v → 2 ^ k - 1 + (suc v - 2 ^ k) ≡ v
    sum k low = omega (arith, pow_pos k)

-- after the number there is a sign, unless it is 0
pub signed_read_back : (c : ℕ) (z : ℤ) (r : ReaderState) → nat_abs z ≤ largest → Gives r (signed_decisions c z) → read_signed c r ≡ record { value = z; next = after r (signed_decisions c z) }
unfolding read_signed signed_decisions sign_decisions after
signed_read_back c z r h g =
    let ns = number_decisions c (nat_abs z) in
    let n = number_read_back c (nat_abs z) r h (gives_front r ns (sign_decisions z) g) in
    ap with_sign n
    ∙ sign z (after r ns) (gives_back r ns (sign_decisions z) g)
    ∙ ap (λ x. record { value = z; next = x }) (sym (after_append r ns (sign_decisions z)))
  where
    with_sign : Read ℕ → Read ℤ
    with_sign x =
        cond (eqb x.value 0)
        (record { value = pos 0; next = x.next })
        (record { value = cond (read_bypass x.next).value (neg_ℤ (pos x.value)) (pos x.value); next = (read_bypass x.next).next })

    positive : (n : ℕ) → eqb (suc n) 0 ≡ false
    positive n = ne_eqb (suc n) 0 (λ e. omega arith)

    sign : (z : ℤ) (s : ReaderState) → Gives s (sign_decisions z) → with_sign (record { value = nat_abs z; next = s }) ≡ record { value = z; next = after s (sign_decisions z) }
    sign (pos zero) s g = refl
    sign (pos (suc n)) s g = rw (positive n, g.0)
    sign (negsuc n) s g = rw (positive n, g.0)

-- one level after the other, the first of a list in its context and the rest from the next on
pub levels_read_back : (k : ℕ) (zs : List ℤ) (r : ReaderState) → Sayable zs → Gives r (levels_decisions k zs) → read_levels (length zs) k r ≡ record { value = zs; next = after r (levels_decisions k zs) }
unfolding read_levels levels_decisions after
levels_read_back k [] r h g = refl
levels_read_back k (z ∷ zs) r h g =
    let ds = signed_decisions (level_context k) z in
    let s = signed_read_back (level_context k) z r (h 0 (omega arith)) (gives_front r ds (levels_decisions (suc k) zs) g) in
    let rest = levels_read_back (suc k) zs (after r ds) (λ i l. h (suc i) (omega arith)) (gives_back r ds (levels_decisions (suc k) zs) g) in
    ap (λ x. record { value = x.value ∷ (read_levels (length zs) (suc k) x.next).value; next = (read_levels (length zs) (suc k) x.next).next }) s
    ∙ ap (λ x. record { value = z ∷ x.value; next = x.next }) rest
    ∙ ap (λ x. record { value = z ∷ zs; next = x }) (sym (after_append r ds (levels_decisions (suc k) zs)))

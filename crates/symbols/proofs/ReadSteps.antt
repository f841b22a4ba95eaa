-- What a reader has read, step by step, as the symbol that the steps make. A loop's invariant says what is left: whoever
-- reads that has read the whole.
use Rattle.std.proofs.Common.{◌≡◌, ℕ, suc, ◌+◌, ◌-◌, ◌*◌, ◌%◌, ◌^◌, ◌<◌, ◌≤◌, Bool, true, false, cond, List, [], ◌∷◌, ◌++◌, length, take, set, ℤ, pos, neg_ℤ, sym, refl, ap, ◌∙◌, subst, mod-eq_of_lt, add-one, arith}
use native.Mathlib.Nat.{pow-succ'}
use mir.Val.{bool_byte}
use Rattle.bits.specs.Bits.{bit}
use Rattle.range_coder.specs.Code.{HasRead, reader_of}
use Rattle.range_coder.specs.Decisions.{read_adaptive, read_bypass}
use Rattle.range_coder.specs.declared.reader.Reader.{Reader}
use Rattle.std.proofs.lemmas.List.{append_assoc, append-nil, take_all, take_more_set}
use Rattle.std.proofs.lemmas.Bool.{ne_eqb}
use Rattle.symbols.proofs.Limits.{bit_most, levels_sayable}
use Rattle.symbols.specs.Promise.{Sayable}
use Rattle.symbols.specs.Reading.{read_prefix, read_bits, read_number, read_signed, read_levels, level_context}

prefix_none : (c : ℕ) (a : Reader) → HasRead (read_prefix 0 c) a a 0
unfolding read_prefix
prefix_none c a = record { bytes = refl; is = refl; next = refl }

prefix_stops : (n c : ℕ) (a b : Reader) → HasRead (read_adaptive c) a b false → HasRead (read_prefix (suc n) c) a b 0
unfolding read_prefix
prefix_stops n c a b f = record { bytes = f.bytes; is = rw f.is; next = rw f.is f.next }

prefix_goes_on : (n c k : ℕ) (a b d : Reader) → HasRead (read_adaptive c) a b true → HasRead (read_prefix n (suc c)) b d k → HasRead (read_prefix (suc n) c) a d (suc k)
unfolding read_prefix
prefix_goes_on n c k a b d f g = record {
  bytes = g.bytes ∙ f.bytes;
  is = rw (f.is, f.next) (ap suc g.is);
  next = rw (f.is, f.next) g.next;
}

-- a context below 64 is taken as it is
in_context : (c : ℕ) (t : Bool) (a b : Reader) → c < 64 → HasRead (read_adaptive (c % 64)) a b t → HasRead (read_adaptive c) a b t
in_context c t a b h f = subst (λ x. HasRead (read_adaptive x) a b t) (mod-eq_of_lt {n = c} {m = 64} h) f

-- whoever reads what is left of a prefix, of which k decisions were true, has read the prefix
abbrev pub PrefixLeft : (c k : ℕ) (before now : Reader) → Type 0
PrefixLeft c k before now = (end : Reader) (n : ℕ) → HasRead (read_prefix (15 - k) (c + k)) now end n → HasRead (read_prefix 15 c) before end (k + n)

pub prefix_left_more : (c k : ℕ) (a b d : Reader) → c ≤ 48 → k < 15 → PrefixLeft c k a b → HasRead (read_adaptive ((c + k) % 64)) b d true → PrefixLeft c (k + 1) a d
prefix_left_more c k a b d small h left f end n g =
    let g₁ = subst (λ x. HasRead (read_prefix (15 - (k + 1)) x) d end n) (let e : c + (k + 1) ≡ suc (c + k) = omega arith in e) g in
    let g₂ = prefix_goes_on (15 - (k + 1)) (c + k) n b d end (in_context (c + k) true b d (omega arith) f) g₁ in
    let g₃ = subst (λ x. HasRead (read_prefix x (c + k)) b end (suc n)) (let e : suc (15 - (k + 1)) ≡ 15 - k = omega arith in e) g₂ in
    subst (HasRead (read_prefix 15 c) a end) (let e : k + suc n ≡ k + 1 + n = omega arith in e) (left end (suc n) g₃)

pub prefix_left_stops : (c k : ℕ) (a b d : Reader) → c ≤ 48 → k < 15 → PrefixLeft c k a b → HasRead (read_adaptive ((c + k) % 64)) b d false → HasRead (read_prefix 15 c) a d k
prefix_left_stops c k a b d small h left f =
    let g₁ = prefix_stops (15 - (k + 1)) (c + k) b d (in_context (c + k) false b d (omega arith) f) in
    let g₂ = subst (λ x. HasRead (read_prefix x (c + k)) b d 0) (let e : suc (15 - (k + 1)) ≡ 15 - k = omega arith in e) g₁ in
    subst (HasRead (read_prefix 15 c) a d) (let e : k + 0 ≡ k = omega arith in e) (left d 0 g₂)

pub prefix_left_none : (c k : ℕ) (a b : Reader) → k ≡ 15 → PrefixLeft c k a b → HasRead (read_prefix 15 c) a b 15
prefix_left_none c k a b e left = subst (λ k. PrefixLeft c k a b) e left b 0 (prefix_none (c + 15) b)

bits_none : (v : ℕ) (a : Reader) → HasRead (read_bits 0 v) a a v
unfolding read_bits
bits_none v a = record { bytes = refl; is = refl; next = refl }

bits_go_on : (k v x : ℕ) (t : Bool) (a b d : Reader) → HasRead read_bypass a b t → HasRead (read_bits k (2 * v + bit t)) b d x → HasRead (read_bits (suc k) v) a d x
unfolding read_bits
bits_go_on k v x t a b d f g =
    let e : read_bits (suc k) v (reader_of a) ≡ read_bits k (2 * v + bit t) (reader_of b) = λ i. read_bits k (2 * v + bit (f.is i)) (f.next i) in
    record { bytes = g.bytes ∙ f.bytes; is = ap (λ x. x.value) e ∙ g.is; next = ap (λ x. x.next) e ∙ g.next }

-- whoever reads what is left of count bits, of which k were read and make v, has read them all
abbrev pub BitsLeft : (count k v : ℕ) (before now : Reader) → Type 0
BitsLeft count k v before now = (end : Reader) (x : ℕ) → HasRead (read_bits (count - k) v) now end x → HasRead (read_bits count 0) before end x

bit_byte : (t : Bool) → bool_byte t ≡ bit t
unfolding bit
bit_byte true = refl
bit_byte false = refl

pub bits_left_more : (count k v s : ℕ) (t : Bool) (a b d : Reader) → k < count → BitsLeft count k v a b → HasRead read_bypass b d t → s ≡ bool_byte t → BitsLeft count (k + 1) (2 * v + s) a d
bits_left_more count k v s t a b d h left f e end x g =
    let g₁ = subst (λ y. HasRead (read_bits (count - (k + 1)) (2 * v + y)) d end x) (e ∙ bit_byte t) g in
    let g₂ = bits_go_on (count - (k + 1)) v x t b d end f g₁ in
    left end x (subst (λ n. HasRead (read_bits n v) b end x) (let e : suc (count - (k + 1)) ≡ count - k = omega arith in e) g₂)

-- one bit more keeps a value of k bits below 2^k
pub bits_more_below : (k v s : ℕ) (t : Bool) → v < 2 ^ k → s ≡ bool_byte t → 2 * v + s < 2 ^ (k + 1)
bits_more_below k v s t h e = rw (add-one, pow-succ') (omega (arith, bit_byte t, bit_most t))

pub bits_left_none : (count k v : ℕ) (a b : Reader) → count ≤ k → BitsLeft count k v a b → HasRead (read_bits count 0) a b v
bits_left_none count k v a b h left = left b v (subst (λ n. HasRead (read_bits n v) b b v) (let e : 0 ≡ count - k = omega arith in e) (bits_none v b))

-- a prefix and as many bits make a number
pub number_of : (c k x p : ℕ) (a b d : Reader) → HasRead (read_prefix 15 c) a b k → HasRead (read_bits k 0) b d x → p ≡ 2 ^ k → HasRead (read_number c) a d (p - 1 + x)
unfolding read_number
number_of c k x p a b d f g e = record {
  bytes = g.bytes ∙ f.bytes;
  is = rw (f.is, f.next, g.is, e);
  next = rw (f.is, f.next) g.next;
}

-- 0 has no sign
pub signed_zero : (c n : ℕ) (a b : Reader) → HasRead (read_number c) a b n → n ≡ 0 → HasRead (read_signed c) a b (pos n)
unfolding read_signed
signed_zero c n a b f e = record { bytes = f.bytes; is = rw (f.is, e); next = rw (f.is, e) f.next }

-- after any other number a bit says whether it is negative
pub signed_of : (c n : ℕ) (t : Bool) (a b d : Reader) → HasRead (read_number c) a b n → (n ≡ 0 → ⊥) → HasRead read_bypass b d t
    → HasRead (read_signed c) a d (cond t (neg_ℤ (pos n)) (pos n))
unfolding read_signed
signed_of c n t a b d f e g =
    let z = ne_eqb n 0 e in
    record { bytes = g.bytes ∙ f.bytes; is = rw (f.is, z, f.next, g.is); next = rw (f.is, z, f.next) g.next }

levels_none : (k : ℕ) (a : Reader) → HasRead (read_levels 0 k) a a []
unfolding read_levels
levels_none k a = record { bytes = refl; is = refl; next = refl }

levels_go_on : (n k : ℕ) (z : ℤ) (zs : List ℤ) (a b d : Reader) → HasRead (read_signed (level_context k)) a b z → HasRead (read_levels n (suc k)) b d zs
    → HasRead (read_levels (suc n) k) a d (z ∷ zs)
unfolding read_levels
levels_go_on n k z zs a b d f g = record {
  bytes = g.bytes ∙ f.bytes;
  is = rw (f.is, f.next, g.is);
  next = rw f.next g.next;
}

-- whoever reads what is left of sixteen levels, of which the first k were read, has read them all
abbrev pub LevelsLeft : (k : ℕ) (levels : List ℤ) (before now : Reader) → Type 0
LevelsLeft k levels before now = (end : Reader) (zs : List ℤ) → HasRead (read_levels (16 - k) k) now end zs → HasRead (read_levels 16 0) before end (take k levels ++ zs)

pub levels_left_more : (c k : ℕ) (levels : List ℤ) (z : ℤ) (a b d : Reader) → k < 16 → length levels ≡ 16
    → LevelsLeft k levels a b → HasRead (read_signed c) b d z → c ≡ level_context k → LevelsLeft (k + 1) (set levels k z) a d
levels_left_more c k levels z a b d h l left f is end zs g =
    let g₁ = subst (λ x. HasRead (read_levels (16 - (k + 1)) x) d end zs) (let e : k + 1 ≡ suc k = omega arith in e) g in
    let g₂ = levels_go_on (16 - (k + 1)) k z zs b d end (subst (λ x. HasRead (read_signed x) b d z) is f) g₁ in
    let g₃ = subst (λ x. HasRead (read_levels x k) b end (z ∷ zs)) (let e : suc (16 - (k + 1)) ≡ 16 - k = omega arith in e) g₂ in
    let e : take k levels ++ z ∷ zs ≡ take (k + 1) (set levels k z) ++ zs
    = sym (append_assoc (take k levels) (z ∷ []) zs) ∙ ap (λ x. x ++ zs) (sym (take_more_set levels k z (omega arith))) in
    subst (HasRead (read_levels 16 0) a end) e (left end (z ∷ zs) g₃)

pub levels_left_none : (k : ℕ) (levels : List ℤ) (a b : Reader) → k ≡ 16 → length levels ≡ 16 → LevelsLeft k levels a b → HasRead (read_levels 16 0) a b levels
levels_left_none k levels a b e l left =
    subst (HasRead (read_levels 16 0) a b) (append-nil (take 16 levels) ∙ take_all 16 levels (omega arith)) (subst (λ x. LevelsLeft x levels a b) e left b [] (levels_none 16 b))

pub levels_small : (levels : List ℤ) (a b : Reader) → HasRead (read_levels 16 0) a b levels → Sayable levels
levels_small levels a b f = subst Sayable f.is (levels_sayable 16 0 (reader_of a))

-- What a writer has written, step by step, as the symbol that the steps say. A loop's invariant says what is left: whoever
-- writes that has written the whole.
use Rattle.std.proofs.Common.{◌≡◌, ℕ, zero, suc, ◌+◌, ◌-◌, ◌*◌, ◌/◌, ◌%◌, ◌^◌, ◌<◌, ◌≤◌, Bool, true, false, eqb, List, [], ◌∷◌, ◌++◌, length, get_or, drop, ℤ, pos, negsuc, nat_abs, sym, refl, ap, ◌∙◌, subst, mod-eq_of_lt, arith}
use lib.Signed.{lt_z}
use Rattle.range_coder.proofs.Decisions.{has_written_none, has_written_then, has_written_within}
use Rattle.range_coder.specs.Code.{HasWritten}
use Rattle.range_coder.specs.Decisions.{Decision, adaptive, bypass}
use Rattle.range_coder.specs.declared.writer.Writer.{Writer}
use Rattle.std.proofs.lemmas.List.{append-nil, drop_more, drop_all}
use Rattle.std.proofs.lemmas.Bool.{le-ltb}
use Rattle.symbols.specs.Reading.{level_context}
use Rattle.symbols.specs.Saying.{prefix_decisions, bits_decisions, exponent, number_decisions, sign_decisions, signed_decisions, levels_decisions}

-- a context below 64 is taken as it is
in_context : (c : ℕ) (t : Bool) (a b : Writer) → c < 64 → HasWritten 7 (adaptive (c % 64) t ∷ []) a b → HasWritten 7 (adaptive c t ∷ []) a b
in_context c t a b h f = subst (λ x. HasWritten 7 (adaptive x t ∷ []) a b) (mod-eq_of_lt {n = c} {m = 64} h) f

-- the same bits and decisions, said otherwise
restated : (m n : ℕ) (xs ys : List Decision) (a b : Writer) → m ≡ n → xs ≡ ys → HasWritten m xs a b → HasWritten n ys a b
restated m n xs ys a b e e₁ f = subst (λ x. HasWritten x ys a b) e (subst (λ x. HasWritten m x a b) e₁ f)

-- whoever writes what is left of a prefix of n, of which k decisions are written, has written the prefix
abbrev pub PrefixLeft : (c n k : ℕ) (before now : Writer) → Type 0
PrefixLeft c n k before now = (end : Writer) → HasWritten (7 * (15 - k)) (prefix_decisions (15 - k) (n - k) (c + k)) now end → HasWritten 105 (prefix_decisions 15 n c) before end

prefix_true : (c n k : ℕ) → k < n → n ≤ 15 → adaptive (c + k) true ∷ prefix_decisions (15 - (k + 1)) (n - (k + 1)) (c + (k + 1)) ≡ prefix_decisions (15 - k) (n - k) (c + k)
unfolding prefix_decisions
prefix_true c n k h l =
    let e : 15 - k ≡ suc (15 - (k + 1)) = omega arith in
    let e₁ : n - k ≡ suc (n - (k + 1)) = omega arith in
    let e₂ : c + (k + 1) ≡ suc (c + k) = omega arith in
    rw (e, e₁, e₂)

pub prefix_left_more : (c n k : ℕ) (a b d : Writer) → c ≤ 48 → n ≤ 15 → k < n → PrefixLeft c n k a b → HasWritten 7 (adaptive ((c + k) % 64) true ∷ []) b d → PrefixLeft c n (k + 1) a d
prefix_left_more c n k a b d small l h left f end g =
    let f₁ = in_context (c + k) true b d (omega arith) f in
    left end (restated _ _ _ _ b end (let e : 7 + 7 * (15 - (k + 1)) ≡ 7 * (15 - k) = omega arith in e) (prefix_true c n k h l) (has_written_then _ _ _ _ b d end f₁ g))

prefix_false : (c n : ℕ) → n < 15 → adaptive (c + n) false ∷ [] ≡ prefix_decisions (15 - n) (n - n) (c + n)
unfolding prefix_decisions
prefix_false c n h =
    let e : 15 - n ≡ suc (15 - (n + 1)) = omega arith in
    let e₁ : n - n ≡ 0 = omega arith in
    rw (e, e₁)

pub prefix_left_stops : (c n k : ℕ) (a b d : Writer) → c ≤ 48 → n < 15 → k ≡ n → PrefixLeft c n k a b → HasWritten 7 (adaptive ((c + n) % 64) false ∷ []) b d → HasWritten 105 (prefix_decisions 15 n c) a d
prefix_left_stops c n k a b d small h e left f =
    let f₁ = has_written_within 7 (7 * (15 - n)) _ b d (omega arith) (in_context (c + n) false b d (omega arith) f) in
    subst (λ x. PrefixLeft c n x a b) e left d (restated _ _ _ _ b d refl (prefix_false c n h) f₁)

prefix_full : (c n : ℕ) → [] ≡ prefix_decisions 0 n c
unfolding prefix_decisions
prefix_full c n = refl

pub prefix_left_none : (c n k : ℕ) (a b : Writer) → k ≡ n → n ≡ 15 → PrefixLeft c n k a b → HasWritten 105 (prefix_decisions 15 n c) a b
prefix_left_none c n k a b e e₁ left =
    let e₂ : k ≡ 15 = omega arith in
    subst (λ x. PrefixLeft c n x a b) e₂ left b (restated _ _ _ _ b b refl (prefix_full (c + 15) (n - 15)) (has_written_none b))

-- whoever writes the low k bits of v has written the low count bits of it
abbrev pub BitsLeft : (count v k : ℕ) (before now : Writer) → Type 0
BitsLeft count v k before now = (end : Writer) → HasWritten k (bits_decisions k v) now end → HasWritten count (bits_decisions count v) before end

bits_top : (k v : ℕ) → 0 < k → bypass (eqb (v / 2 ^ (k - 1) % 2) 1) ∷ bits_decisions (k - 1) v ≡ bits_decisions k v
unfolding bits_decisions
bits_top zero v h = absurd (let f : ⊥ = omega arith in f)
bits_top (suc k) v h = let e : suc k - 1 ≡ k = omega arith in rw e

pub bits_left_more : (count v k : ℕ) (a b d : Writer) → 0 < k → BitsLeft count v k a b → HasWritten 1 (bypass (eqb (v / 2 ^ (k - 1) % 2) 1) ∷ []) b d → BitsLeft count v (k - 1) a d
bits_left_more count v k a b d h left f end g =
    left end (restated _ _ _ _ b end (let e : 1 + (k - 1) ≡ k = omega arith in e) (bits_top k v h) (has_written_then _ _ _ _ b d end f g))

bits_no_more : (v : ℕ) → [] ≡ bits_decisions 0 v
unfolding bits_decisions
bits_no_more v = refl

pub bits_left_none : (count v k : ℕ) (a b : Writer) → k ≡ 0 → BitsLeft count v k a b → HasWritten count (bits_decisions count v) a b
bits_left_none count v k a b e left = subst (λ x. BitsLeft count v x a b) e left b (restated _ _ _ _ b b refl (bits_no_more v) (has_written_none b))

-- a prefix and its suffix say a number
pub number_of : (c v k u : ℕ) (a b d : Writer) → k ≡ exponent 15 v → k ≤ 15 → u ≡ suc v - 2 ^ k
    → HasWritten 105 (prefix_decisions 15 k c) a b → HasWritten k (bits_decisions k u) b d → HasWritten 120 (number_decisions c v) a d
unfolding number_decisions
number_of c v k u a b d e h e₁ f g =
    let ds : prefix_decisions 15 k c ++ bits_decisions k u ≡ prefix_decisions 15 k c ++ bits_decisions k (suc v - 2 ^ k) = ap (λ x. prefix_decisions 15 k c ++ bits_decisions k x) e₁ in
    let ds₁ = ap (λ x. prefix_decisions 15 x c ++ bits_decisions x (suc v - 2 ^ x)) e in
    restated _ _ _ _ a d refl (ds ∙ ds₁) (has_written_within (105 + k) 120 _ a d (omega arith) (has_written_then _ _ _ _ a b d f g))

-- 0 has no sign
no_sign : (c : ℕ) (z : ℤ) → z ≡ pos 0 → number_decisions c (nat_abs z) ≡ signed_decisions c z
unfolding signed_decisions sign_decisions
no_sign c z e = rw e (sym (append-nil (number_decisions c 0)))

pub signed_zero : (c : ℕ) (z : ℤ) (a b : Writer) → z ≡ pos 0 → HasWritten 120 (number_decisions c (nat_abs z)) a b → HasWritten 121 (signed_decisions c z) a b
signed_zero c z a b e f = restated _ _ _ _ a b refl (no_sign c z e) (has_written_within 120 121 _ a b (omega arith) f)

-- any other number has the sign that says whether it is negative
sign : (z : ℤ) → (z ≡ pos 0 → ⊥) → bypass (lt_z z (pos 0)) ∷ [] ≡ sign_decisions z
unfolding sign_decisions
sign (pos zero) h = absurd (h refl)
sign (pos (suc n)) h = rw (le-ltb (suc n) 0 (omega arith))
sign (negsuc n) h = refl

pub signed_of : (c : ℕ) (z : ℤ) (a b d : Writer) → (z ≡ pos 0 → ⊥) → HasWritten 120 (number_decisions c (nat_abs z)) a b → HasWritten 1 (bypass (lt_z z (pos 0)) ∷ []) b d → HasWritten 121 (signed_decisions c z) a d
unfolding signed_decisions
signed_of c z a b d e f g = restated _ _ _ _ a d refl (ap (λ x. number_decisions c (nat_abs z) ++ x) (sign z e)) (has_written_then 120 1 _ _ a b d f g)

-- whoever writes the levels from level k on has written all sixteen
abbrev pub LevelsLeft : (levels : List ℤ) (k : ℕ) (before now : Writer) → Type 0
LevelsLeft levels k before now = (end : Writer) → HasWritten (121 * (16 - k)) (levels_decisions k (drop k levels)) now end → HasWritten 1936 (levels_decisions 0 levels) before end

next_level : (levels : List ℤ) (k : ℕ) → k < length levels → signed_decisions (level_context k) (get_or levels k (pos 0)) ++ levels_decisions (k + 1) (drop (k + 1) levels) ≡ levels_decisions k (drop k levels)
unfolding levels_decisions
next_level levels k h = let e : k + 1 ≡ suc k = omega arith in rw (drop_more levels k (pos 0) h, e)

pub levels_left_more : (levels : List ℤ) (k c : ℕ) (z : ℤ) (a b d : Writer) → k < 16 → length levels ≡ 16 → LevelsLeft levels k a b
    → HasWritten 121 (signed_decisions c z) b d → c ≡ level_context k → z ≡ get_or levels k (pos 0) → LevelsLeft levels (k + 1) a d
levels_left_more levels k c z a b d h l left f e e₁ end g =
    let f₁ = restated _ _ _ _ b d refl (λ i. signed_decisions (e i) (e₁ i)) f in
    left end (restated _ _ _ _ b end (let q : 121 + 121 * (16 - (k + 1)) ≡ 121 * (16 - k) = omega arith in q) (next_level levels k (omega arith)) (has_written_then _ _ _ _ b d end f₁ g))

no_levels : (levels : List ℤ) → length levels ≡ 16 → [] ≡ levels_decisions 16 (drop 16 levels)
unfolding levels_decisions
no_levels levels l = rw (drop_all 16 levels (omega arith))

pub levels_left_none : (levels : List ℤ) (k : ℕ) (a b : Writer) → k ≡ 16 → length levels ≡ 16 → LevelsLeft levels k a b → HasWritten 1936 (levels_decisions 0 levels) a b
levels_left_none levels k a b e l left = subst (λ x. LevelsLeft levels x a b) e left b (restated _ _ _ _ b b refl (no_levels levels l) (has_written_none b))

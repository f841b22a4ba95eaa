-- One decision, read and written: the range stays in its limits, and a decoder over bits that lie within the encoder's range follows it.
use Rattle.std.proofs.Common.{◌≡◌, ℕ, zero, suc, ◌+◌, ◌-◌, ◌*◌, ◌/◌, ◌^◌, ◌<◌, ◌≤◌, Bool, true, false, cond, ltb, sym, refl, ap, ◌∙◌, inl, inr, add-zero, div-lt_iff_lt-mul, add-one, arith, ltb-false, ltb-true, le-ltb, lt-ltb}
use mathlib.Core.Path.{fun_ext}
use native.Mathlib.Nat.{pow-succ', mul-lt-mul_of_pos_left}
use Rattle.std.proofs.lemmas.Bool.{cases_lt, cond-true, cond-false, cond_both}
use Rattle.bits.specs.Bits.{Bits, bit, skip, prefix_value}
use Rattle.bits.proofs.Positions.{bit_small}
use Rattle.bits.proofs.Prefixes.{prefix_below}
use Rattle.range_coder.specs.Coding.{
  split,
  adapted,
  DecoderState,
  start_decoder,
  doubled,
  renormalised,
  decision,
  chosen,
  decided,
  EncoderState,
  start_encoder,
  widened,
  extended,
  narrowed,
  encoded,
  Inside,
}
use Rattle.range_coder.specs.Promise.{InLimits}

-- THE SPLIT

pub split_some : (range p : ℕ) → 1 ≤ split range p
unfolding split
split_some range p = omega arith

pub split_below : (range p : ℕ) → 2 ≤ range → p ≤ 255 → split range p < range
unfolding split
split_below range p h q =
    let l : p < 256 = omega arith in
    let below : (range - 1) * p < (range - 1) * 256 = mul-lt-mul_of_pos_left l (omega arith) in
    let pos : 0 < 256 = omega arith in
    let d : (range - 1) * p / 256 < range - 1 = (div-lt_iff_lt-mul pos).1 below in
    omega arith

pub adapted_some : (p : ℕ) (b : Bool) → 1 ≤ p → 1 ≤ adapted p b
unfolding adapted
adapted_some p true h = omega arith
adapted_some p false h = omega arith

pub adapted_below : (p : ℕ) (b : Bool) → p ≤ 255 → adapted p b ≤ 255
unfolding adapted
adapted_below p true h = omega arith
adapted_below p false h = omega arith

-- RENORMALISATION, of a decoder or an encoder: doublings until the range is at least 128

module _ {S : Type 0} (range : S → ℕ) (double : S → S) (doubles : (s : S) → range (double s) ≡ 2 * range s)
    (renormal : ℕ → S → S) (none : (s : S) → renormal 0 s ≡ s)
    (some : (n : ℕ) (s : S) → renormal (suc n) s ≡ cond (ltb (range s) 128) (renormal n (double s)) s) where
  stays : (k : ℕ) (s : S) → 128 ≤ range s → renormal k s ≡ s
  stays zero s h = none s
  stays (suc k) s h = some k s ∙ cond-false (ltb (range s) 128) (renormal k (double s)) s (le-ltb (range s) 128 h)

  more : (k : ℕ) (s : S) → range s < 128 → renormal (suc k) s ≡ renormal k (double s)
  more k s h = some k s ∙ cond-true (ltb (range s) 128) (renormal k (double s)) s (lt-ltb (range s) 128 h)

  -- one doubling more changes nothing where k bring the range to 128
  enough : (k : ℕ) (s : S) → 128 ≤ range s * 2 ^ k → renormal (suc k) s ≡ renormal k s
  enough zero s h = stays 1 s (omega arith) ∙ sym (stays 0 s (omega arith))
  enough (suc k) s h =
      let m : 128 ≤ range s * (2 * 2 ^ k) = rw (pow-succ' 2 k) at h in
      let ih = enough k (double s) (rw (doubles s) (omega arith)) in
      elim (cases_lt (range s) 128) [
        | inl l ↦ more (suc k) s l ∙ ih ∙ sym (more k s l)
        | inr l ↦ stays (suc (suc k)) s l ∙ sym (stays (suc k) s l)
      ]

  -- a loop that doubles until the range is at least 128 does what at most seven doublings do
  turn : (s : S) → 1 ≤ range s → range s < 128 → renormal 7 (double s) ≡ renormal 7 s
  turn s h l = enough 6 (double s) (rw (doubles s) (omega arith)) ∙ sym (more 6 s l)

pub renormalised_stays : (k : ℕ) (d : DecoderState) → 128 ≤ d.range → renormalised k d ≡ d
unfolding renormalised
renormalised_stays = stays (λ d. d.range) doubled (λ d. refl) renormalised (λ d. refl) (λ n d. refl)

pub renormalised_turn : (d : DecoderState) → 1 ≤ d.range → d.range < 128 → renormalised 7 (doubled d) ≡ renormalised 7 d
unfolding renormalised
renormalised_turn = turn (λ d. d.range) doubled (λ d. refl) renormalised (λ d. refl) (λ n d. refl)

pub extended_stays : (k : ℕ) (e : EncoderState) → 128 ≤ e.range → extended k e ≡ e
unfolding extended
extended_stays = stays (λ e. e.range) widened (λ e. refl) extended (λ e. refl) (λ n e. refl)

extended_more : (k : ℕ) (e : EncoderState) → e.range < 128 → extended (suc k) e ≡ extended k (widened e)
unfolding extended
extended_more = more (λ e. e.range) widened (λ e. refl) extended (λ e. refl) (λ n e. refl)

pub extended_turn : (e : EncoderState) → 1 ≤ e.range → e.range < 128 → extended 7 (widened e) ≡ extended 7 e
unfolding extended
extended_turn = turn (λ e. e.range) widened (λ e. refl) extended (λ e. refl) (λ n e. refl)

renormalised_limits : (k : ℕ) (d : DecoderState) → 128 ≤ d.range * 2 ^ k → d.range ≤ 256 → d.offset < d.range → InLimits (renormalised k d)
unfolding renormalised
renormalised_limits zero d s h i = record { low = omega arith; high = h; inside = i }
renormalised_limits (suc k) d s h i =
    let m : 128 ≤ d.range * (2 * 2 ^ k) = rw (pow-succ' 2 k) at s in
    cond_both (ltb d.range 128) (renormalised k (doubled d)) d InLimits
    (λ e. let l = ltb-true d.range 128 e in renormalised_limits k (doubled d) (omega arith) (omega arith) (omega (arith, bit_small (d.rest 0))))
    (λ e. record { low = ltb-false d.range 128 e; high = h; inside = i })

pub decided_limits : (p : ℕ) (d : DecoderState) → p ≤ 255 → InLimits d → InLimits (decided p d)
unfolding decided decision chosen
decided_limits p d q l =
    let below = split_below d.range p (omega (arith, l.low)) q in
    let some = split_some d.range p in
    cond_both (ltb d.offset (split d.range p)) false true (λ b. InLimits (renormalised 7 (chosen p b d)))
    (λ e. renormalised_limits 7 (chosen p false d) (omega arith) (omega (arith, l.high)) (ltb-true d.offset (split d.range p) e))
    (λ e. renormalised_limits 7 (chosen p true d) (omega arith) (omega (arith, l.high)) (omega (arith, l.inside, ltb-false d.offset (split d.range p) e)))

-- WRITING: the range is never empty, and the bits hold the bottom of it

pub record Sound (e : EncoderState) : Type 0 where
  pub low : 128 ≤ e.range
  pub high : e.range ≤ 256
  pub top : e.low + e.range ≤ 2 ^ e.length

extended_sound : (k : ℕ) (e : EncoderState) → 128 ≤ e.range * 2 ^ k → e.range ≤ 256 → e.low + e.range ≤ 2 ^ e.length → Sound (extended k e)
unfolding extended
extended_sound zero e s h t = record { low = omega arith; high = h; top = t }
extended_sound (suc k) e s h t =
    let m : 128 ≤ e.range * (2 * 2 ^ k) = rw (pow-succ' 2 k) at s in
    cond_both (ltb e.range 128) (extended k (widened e)) e Sound
    (λ q. extended_sound k (widened e) (omega arith) (omega (arith, ltb-true e.range 128 q)) (rw (pow-succ' 2 e.length) (omega arith)))
    (λ q. record { low = ltb-false e.range 128 q; high = h; top = t })

pub encoded_sound : (p : ℕ) (b : Bool) (e : EncoderState) → p ≤ 255 → Sound e → Sound (encoded p b e)
unfolding encoded narrowed
encoded_sound p true e q s =
    let l = split_below e.range p (omega (arith, s.low)) q in
    extended_sound 7 (narrowed p true e) (omega arith) (omega (arith, s.high)) (omega (arith, s.top))
encoded_sound p false e q s =
    let l = split_below e.range p (omega (arith, s.low)) q in
    extended_sound 7 (narrowed p false e) (omega (arith, split_some e.range p)) (omega (arith, s.high)) (omega (arith, s.top))

-- how many bits a decision takes

pub extended_grows : (k : ℕ) (e : EncoderState) → e.length ≤ (extended k e).length
unfolding extended
extended_grows zero e = omega arith
extended_grows (suc k) e =
    cond_both (ltb e.range 128) (extended k (widened e)) e (λ x. e.length ≤ x.length)
    (λ _. let ih = extended_grows k (widened e) in omega arith) (λ _. omega arith)

pub extended_spends : (k : ℕ) (e : EncoderState) → (extended k e).length ≤ e.length + k
unfolding extended
extended_spends zero e = omega arith
extended_spends (suc k) e =
    cond_both (ltb e.range 128) (extended k (widened e)) e (λ x. x.length ≤ e.length + suc k)
    (λ _. let ih = extended_spends k (widened e) in omega arith) (λ _. omega arith)

extended_once : (e : EncoderState) → 64 ≤ e.range → (extended 7 e).length ≤ e.length + 1
extended_once e h = elim (cases_lt e.range 128) [
  | inl l ↦ omega (arith, ap (λ x. x.length) (extended_more 6 e l ∙ extended_stays 6 (widened e) (omega arith)))
  | inr l ↦ omega (arith, ap (λ x. x.length) (extended_stays 7 e l))
]

pub encoded_spends : (p : ℕ) (b : Bool) (e : EncoderState) → (encoded p b e).length ≤ e.length + 7
unfolding encoded narrowed
encoded_spends p true e = extended_spends 7 (narrowed p true e)
encoded_spends p false e = extended_spends 7 (narrowed p false e)

-- an equiprobable decision leaves a range of at least 64, so one doubling is enough
pub bypass_spends : (b : Bool) (e : EncoderState) → 128 ≤ e.range → (encoded 128 b e).length ≤ e.length + 1
unfolding encoded narrowed split
bypass_spends true e h = extended_once (narrowed 128 true e) (omega arith)
bypass_spends false e h = extended_once (narrowed 128 false e) (omega arith)

-- bits within a later range lie within each earlier one

extended_inside : (k : ℕ) (e : EncoderState) (bs : Bits) → Inside (extended k e) bs → Inside e bs
unfolding extended prefix_value
extended_inside zero e bs h = h
extended_inside (suc k) e bs h =
    cond_both (ltb e.range 128) (extended k (widened e)) e (λ x. Inside x bs → Inside e bs)
    (λ _ i.
    let j = extended_inside k (widened e) bs i in
    record { bottom = omega (arith, j.bottom, bit_small (bs e.length)); top = omega (arith, j.top) })
    (λ _ i. i) h

narrowed_inside : (p : ℕ) (b : Bool) (e : EncoderState) (bs : Bits) → p ≤ 255 → Sound e → Inside (narrowed p b e) bs → Inside e bs
unfolding narrowed
narrowed_inside p true e bs q s h =
    let l = split_below e.range p (omega (arith, s.low)) q in
    record { bottom = omega (arith, h.bottom); top = omega (arith, h.top) }
narrowed_inside p false e bs q s h =
    let l = split_below e.range p (omega (arith, s.low)) q in
    record { bottom = h.bottom; top = omega (arith, h.top) }

pub encoded_inside : (p : ℕ) (b : Bool) (e : EncoderState) (bs : Bits) → Inside (encoded p b e) bs → Inside (narrowed p b e) bs
unfolding encoded
encoded_inside p b e bs h = extended_inside 7 (narrowed p b e) bs h

pub encoded_within : (p : ℕ) (b : Bool) (e : EncoderState) (bs : Bits) → p ≤ 255 → Sound e → Inside (encoded p b e) bs → Inside e bs
encoded_within p b e bs q s h = narrowed_inside p b e bs q s (encoded_inside p b e bs h)

-- A DECODER BESIDE AN ENCODER: its offset is the number that the bits make so far, less the bottom of the encoder's range

pub record Follows (d : DecoderState) (e : EncoderState) (bs : Bits) : Type 0 where
  pub range : d.range ≡ e.range
  pub offset : d.offset + e.low ≡ prefix_value e.length bs
  pub rest : d.rest ≡ skip e.length bs

doubled_follows : (d : DecoderState) (e : EncoderState) (bs : Bits) → Follows d e bs → Follows (doubled d) (widened e) bs
unfolding prefix_value
doubled_follows d e bs f =
    let b : d.rest 0 ≡ bs e.length = ap (λ r. r 0) f.rest ∙ ap bs (add-zero e.length) in
    record {
      range = omega (arith, f.range);
      offset = omega (arith, f.offset, ap bit b);
      rest = ap (skip 1) f.rest ∙ fun_ext (λ k. let s : e.length + (1 + k) ≡ suc e.length + k = omega arith in ap bs s);
    }

-- two conditions that test the same
both_cond : {A B : Type 0} (P : A → B → Type 0) (t u : Bool) → t ≡ u → (a a' : A) (b b' : B) → P a b → P a' b' → P (cond t a a') (cond u b b')
both_cond P t u e a a' b b' x y = rw e (elim u as (λ v. P (cond v a a') (cond v b b')) [ true ↦ x | false ↦ y ])

renormalised_follows : (k : ℕ) (d : DecoderState) (e : EncoderState) (bs : Bits) → Follows d e bs → Follows (renormalised k d) (extended k e) bs
unfolding renormalised extended
renormalised_follows zero d e bs f = f
renormalised_follows (suc k) d e bs f =
    both_cond (λ x y. Follows x y bs) (ltb d.range 128) (ltb e.range 128) (ap (λ x. ltb x 128) f.range)
    (renormalised k (doubled d)) d (extended k (widened e)) e
    (renormalised_follows k (doubled d) (widened e) bs (doubled_follows d e bs f)) f

pub decision_false : (p : ℕ) (d : DecoderState) → d.offset < split d.range p → decision p d ≡ false
unfolding decision
decision_false p d h = rw (lt-ltb d.offset (split d.range p) h)

pub decision_true : (p : ℕ) (d : DecoderState) → split d.range p ≤ d.offset → decision p d ≡ true
unfolding decision
decision_true p d h = rw (le-ltb d.offset (split d.range p) h)

-- the decoder after a decision, with the split at hand

pub decided_false : (p : ℕ) (d : DecoderState) (s : ℕ) → s ≡ split d.range p → d.offset < s
    → decided p d ≡ renormalised 7 (record { range = s; offset = d.offset; rest = d.rest })
unfolding decided chosen
decided_false p d s e h = rw (decision_false p d (omega arith), e)

pub decided_true : (p : ℕ) (d : DecoderState) (s : ℕ) → s ≡ split d.range p → s ≤ d.offset
    → decided p d ≡ renormalised 7 (record { range = d.range - s; offset = d.offset - s; rest = d.rest })
unfolding decided chosen
decided_true p d s e h = rw (decision_true p d (omega arith), e)

pub decided_follows : (p : ℕ) (b : Bool) (d : DecoderState) (e : EncoderState) (bs : Bits) → Follows d e bs → Inside (narrowed p b e) bs
    → (decision p d ≡ b) × Follows (decided p d) (encoded p b e) bs
unfolding narrowed encoded decided chosen
decided_follows p true d e bs f h =
    let same = ap (λ x. split x p) f.range in
    let q = decision_true p d (omega (arith, f.offset, h.bottom)) in (
      q,
      rw q (renormalised_follows 7 (chosen p true d) (narrowed p true e) bs
          (record { range = omega (arith, f.range); offset = omega (arith, f.offset, h.bottom); rest = f.rest })),
    )
decided_follows p false d e bs f h =
    let same = ap (λ x. split x p) f.range in
    let q = decision_false p d (omega (arith, f.offset, h.top)) in (
      q,
      rw q (renormalised_follows 7 (chosen p false d) (narrowed p false e) bs
          (record { range = same; offset = f.offset; rest = f.rest })),
    )

pub start_sound : Sound start_encoder
unfolding start_encoder
start_sound = record { low = omega arith; high = omega arith; top = omega arith }

pub start_follows : (bs : Bits) → Follows (start_decoder bs) start_encoder bs
unfolding start_decoder start_encoder
start_follows bs = record { range = refl; offset = omega arith; rest = refl }

pub start_limits : (bs : Bits) → InLimits (start_decoder bs)
unfolding start_decoder
start_limits bs = record { low = omega arith; high = omega arith; inside = prefix_below 8 bs }

-- THE TURNS OF THE LOOPS that double

pub decoder_turn : (range offset b : ℕ) (rest rest₁ : Bits) → b ≡ bit (rest 0) → rest₁ ≡ skip 1 rest → 1 ≤ range → range < 128
    → renormalised 7 (record { range = range * 2; offset = 2 * offset + b; rest = rest₁ })
    ≡ renormalised 7 (record { range = range; offset = offset; rest = rest })
decoder_turn range offset b rest rest₁ eb er h l =
    let w : range * 2 ≡ 2 * range = omega arith in
    ap (renormalised 7) (λ i. record { range = w i; offset = 2 * offset + eb i; rest = er i })
    ∙ renormalised_turn (record { range = range; offset = offset; rest = rest }) h l

pub encoder_turn : (low range length d : ℕ) → 1 ≤ range → range < 128
    → extended 7 (record { low = low * 2 ^ (d + 1); range = range * 2; length = length + (d + 1) })
    ≡ extended 7 (record { low = low * 2 ^ d; range = range; length = length + d })
encoder_turn low range length d h l =
    let v : low * 2 ^ (d + 1) ≡ 2 * (low * 2 ^ d) = rw (add-one d, pow-succ' 2 d) (omega arith) in
    let w : range * 2 ≡ 2 * range = omega arith in
    let n : length + (d + 1) ≡ suc (length + d) = omega arith in
    ap (extended 7) (λ i. record { low = v i; range = w i; length = n i })
    ∙ extended_turn (record { low = low * 2 ^ d; range = range; length = length + d }) h l

pub few_doublings : (e₁ e : EncoderState) → extended 7 e₁ ≡ extended 7 e → e₁.length ≤ e.length + 7
few_doublings e₁ e q = omega (arith, extended_grows 7 e₁, extended_spends 7 e, ap (λ x. x.length) q)

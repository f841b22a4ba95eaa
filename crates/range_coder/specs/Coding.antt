-- A binary range coder: one decision at a time, each with a probability of `false` in 256ths.
-- Assumes nothing: these are definitions.
use Rattle.std.specs.Prelude.{ℕ, zero, suc, ◌+◌, ◌-◌, ◌*◌, ◌/◌, ◌<◌, ◌≤◌, Bool, true, false, cond, nat_lt}
use Rattle.bits.specs.Bits.{Bits, bit, skip, prefix_value}

-- the part of the range that belongs to `false`, which has probability p
unfoldable pub split : (range p : ℕ) → ℕ
split range p = 1 + (range - 1) * p / 256

-- an adaptive probability moves a sixteenth of the way towards what was decided
unfoldable pub adapted : ℕ → Bool → ℕ
adapted p true = p - p / 16
adapted p false = p + (256 - p) / 16

-- READING

-- the range, the offset of the bits within it, and the bits that follow
pub record DecoderState : Type 0 where
  pub range : ℕ
  pub offset : ℕ
  pub rest : Bits

-- at first the range is 256 and the first eight bits are the offset
unfoldable pub start_decoder : Bits → DecoderState
start_decoder bs = record { range = 256; offset = prefix_value 8 bs; rest = skip 8 bs }

-- one doubling: the next bit is the offset's new low bit
abbrev pub doubled : DecoderState → DecoderState
doubled d = record { range = 2 * d.range; offset = 2 * d.offset + bit (d.rest 0); rest = skip 1 d.rest }

-- doublings, at most n, until the range is at least 128
unfoldable pub renormalised : ℕ → DecoderState → DecoderState
renormalised zero d = d
renormalised (suc n) d = cond (nat_lt d.range 128) (renormalised n (doubled d)) d

-- which part of the range the offset lies in, and that part as the new range
unfoldable pub decision : (p : ℕ) → DecoderState → Bool
decision p d = cond (nat_lt d.offset (split d.range p)) false true

unfoldable pub chosen : (p : ℕ) → Bool → DecoderState → DecoderState
chosen p false d = record { range = split d.range p; offset = d.offset; rest = d.rest }
chosen p true d = record { range = d.range - split d.range p; offset = d.offset - split d.range p; rest = d.rest }

-- a range of at least 1 reaches 128 in seven doublings
unfoldable pub decided : (p : ℕ) → DecoderState → DecoderState
decided p d = renormalised 7 (chosen p (decision p d) d)

-- WRITING

-- the bottom of the range, the range, and how many bits the bottom has
pub record EncoderState : Type 0 where
  pub low : ℕ
  pub range : ℕ
  pub length : ℕ

unfoldable pub start_encoder : EncoderState
start_encoder = record { low = 0; range = 256; length = 8 }

abbrev pub widened : EncoderState → EncoderState
widened e = record { low = 2 * e.low; range = 2 * e.range; length = suc e.length }

unfoldable pub extended : ℕ → EncoderState → EncoderState
extended zero e = e
extended (suc n) e = cond (nat_lt e.range 128) (extended n (widened e)) e

unfoldable pub narrowed : (p : ℕ) → Bool → EncoderState → EncoderState
narrowed p false e = record { low = e.low; range = split e.range p; length = e.length }
narrowed p true e = record { low = e.low + split e.range p; range = e.range - split e.range p; length = e.length }

unfoldable pub encoded : (p : ℕ) → Bool → EncoderState → EncoderState
encoded p b e = extended 7 (narrowed p b e)

-- bits that lie within the range
pub record Inside (e : EncoderState) (bs : Bits) : Type 0 where
  pub bottom : e.low ≤ prefix_value e.length bs
  pub top : prefix_value e.length bs < e.low + e.range

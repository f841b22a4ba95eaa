-- What the range coder promises. Each is a statement, and a function's contract asks for its proof.
use Rattle.std.specs.Prelude.{ℕ, ◌<◌, ◌≤◌, List}
use Rattle.bits.specs.Bits.{Bits}
use Rattle.range_coder.specs.Coding.{DecoderState, Inside, decided}
use Rattle.range_coder.specs.Decisions.{Contexts, Decision, ReaderState, Gives, start_reader, read_adaptive, read_bypass, start_writer, written}

pub record InLimits (d : DecoderState) : Type 0 where
  pub low : 128 ≤ d.range
  pub high : d.range ≤ 256
  pub inside : d.offset < d.range

-- a probability is never 0 and never 1
abbrev pub Fair : Contexts → Type 0
Fair f = (c : ℕ) → (1 ≤ f c) × (f c ≤ 255)

pub record ReaderInLimits (r : ReaderState) : Type 0 where
  pub decoder : InLimits r.decoder
  pub contexts : Fair r.contexts

-- RANGE AND PROBABILITIES STAY IN THEIR LIMITS, WHATEVER IS READ: a split leaves both parts at least 1 wide,
-- seven doublings bring either back to 128, and a sixteenth of the way never arrives.
pub record LimitsKept : Type 0 where
  pub start : (bs : Bits) → ReaderInLimits (start_reader bs)
  pub one : (p : ℕ) (d : DecoderState) → p ≤ 255 → InLimits d → InLimits (decided p d)
  pub adaptive : (c : ℕ) (r : ReaderState) → ReaderInLimits r → ReaderInLimits (read_adaptive c r).next
  pub bypass : (r : ReaderState) → ReaderInLimits r → ReaderInLimits (read_bypass r).next

-- WHAT WAS WRITTEN IS READ BACK: any bits within the writer's last range are read as the decisions that were written,
-- since they lie within every earlier range too, and the offset is their number less the bottom of the range.
abbrev pub ReadBack : Type 0
ReadBack = (ds : List Decision) (bs : Bits) → Inside (written ds start_writer).encoder bs → Gives (start_reader bs) ds

-- Decisions by adaptive contexts, or equiprobable: how they are read, and how they are written.
-- Assumes nothing: these are definitions.
use Rattle.std.specs.Prelude.{◌≡◌, ℕ, Bool, cond, List, [], ◌∷◌, ◌==◌}
use Rattle.bits.specs.Bits.{Bits}
use Rattle.range_coder.specs.Coding.{DecoderState, EncoderState, start_decoder, start_encoder, decision, decided, encoded, adapted}

-- each context's probability of `false`, in 256ths
abbrev pub Contexts : Type 0
Contexts = ℕ → ℕ

unfoldable pub start_contexts : Contexts
start_contexts c = 128

-- the contexts after context c has seen a decision
unfoldable pub learned : Contexts → ℕ → Bool → Contexts
learned f c b d = cond (d == c) (adapted (f c) b) (f d)

pub record ReaderState : Type 0 where
  pub decoder : DecoderState
  pub contexts : Contexts

unfoldable pub start_reader : Bits → ReaderState
start_reader bs = record { decoder = start_decoder bs; contexts = start_contexts }

-- a value that was read, and the reader after it
pub record Read (A : Type 0) : Type 0 where
  pub value : A
  pub next : ReaderState

-- an equiprobable bit, which no context learns from
unfoldable pub read_bypass : ReaderState → Read Bool
read_bypass r = record { value = decision 128 r.decoder; next = record { decoder = decided 128 r.decoder; contexts = r.contexts } }

-- a decision in context c, which learns from what was read
unfoldable pub read_adaptive : ℕ → ReaderState → Read Bool
read_adaptive c r = record {
  value = decision (r.contexts c) r.decoder;
  next = record {
    decoder = decided (r.contexts c) r.decoder;
    contexts = learned r.contexts c (decision (r.contexts c) r.decoder);
  };
}

-- what a symbol is said by
pub data Decision : Type 0 where
  adaptive : (context : ℕ) → Bool → Decision
  bypass : Bool → Decision

-- a reader gives these decisions, one after the other
abbrev pub Gives : ReaderState → List Decision → Type 0
Gives r [] = Unit {0}
Gives r (adaptive c b ∷ ds) = ((read_adaptive c r).value ≡ b) × Gives (read_adaptive c r).next ds
Gives r (bypass b ∷ ds) = ((read_bypass r).value ≡ b) × Gives (read_bypass r).next ds

-- where a reader stands after so many decisions of these kinds
unfoldable pub after : ReaderState → List Decision → ReaderState
after r [] = r
after r (adaptive c b ∷ ds) = after (read_adaptive c r).next ds
after r (bypass b ∷ ds) = after (read_bypass r).next ds

pub record WriterState : Type 0 where
  pub encoder : EncoderState
  pub contexts : Contexts

unfoldable pub start_writer : WriterState
start_writer = record { encoder = start_encoder; contexts = start_contexts }

unfoldable pub written : List Decision → WriterState → WriterState
written [] w = w
written (adaptive c b ∷ ds) w = written ds (record { encoder = encoded (w.contexts c) b w.encoder; contexts = learned w.contexts c b })
written (bypass b ∷ ds) w = written ds (record { encoder = encoded 128 b w.encoder; contexts = w.contexts })

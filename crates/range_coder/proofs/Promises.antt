-- The promises of the range coder: limits are kept, and what was written is read back.
use Rattle.std.proofs.Common.{◌≡◌, ℕ, ◌+◌, ◌-◌, ◌/◌, ◌<◌, ◌≤◌, Bool, eqb, ◌⊎◌, List, [], ◌∷◌, length, get_or, take, sym, ap, ◌∙◌, subst, arith}
use mathlib.Core.Path.{fun_ext}
use Rattle.std.proofs.lemmas.Bool.{cond_both}
use Rattle.bits.specs.Bits.{Bits, bits_of, skip, zeros, prefix_value}
use Rattle.bits.proofs.Positions.{bits_of_take}
use Rattle.range_coder.specs.Code.{Finished, writer_of}
use Rattle.range_coder.specs.Coding.{DecoderState, EncoderState, Inside, adapted, decided, decision, encoded, start_decoder, start_encoder}
use Rattle.range_coder.specs.Decisions.{Contexts, Decision, adaptive, bypass, Gives, after, learned, ReaderState, WriterState, read_adaptive, read_bypass, start_contexts, start_reader, start_writer, written}
use Rattle.range_coder.specs.Promise.{Fair, LimitsKept, ReadBack}
use Rattle.range_coder.specs.Store.{stored}
use Rattle.range_coder.specs.declared.writer.Writer.{Writer}
use Rattle.range_coder.proofs.Coding.{Follows, Sound, decided_follows, decided_limits, encoded_inside, encoded_sound, encoded_within, start_follows, start_limits, start_sound}
use Rattle.range_coder.proofs.Probabilities.{Probability, adapted_probability}

learned_fair : (f : Contexts) (c : ℕ) (b : Bool) → Fair f → Fair (learned f c b)
unfolding learned
learned_fair f c b h d =
    cond_both (eqb d c) (adapted (f c) b) (f d) Probability (λ _. adapted_probability (f c) b (h c)) (λ _. h d)

start_fair : Fair start_contexts
unfolding start_contexts
start_fair c = (omega arith, omega arith)

pub limits_kept : LimitsKept
unfolding read_adaptive read_bypass start_reader
limits_kept = record {
  start = λ bs. record { decoder = start_limits bs; contexts = start_fair };
  one = decided_limits;
  adaptive = λ c r h. record {
    decoder = decided_limits (r.contexts c) r.decoder (h.contexts c).1 h.decoder;
    contexts = learned_fair r.contexts c (decision (r.contexts c) r.decoder) h.contexts;
  };
  bypass = λ r h. record { decoder = decided_limits 128 r.decoder (omega arith) h.decoder; contexts = h.contexts };
}

-- READ BACK: a reader whose decoder follows the writer's encoder gives the decisions that were written, and follows still

abbrev writer_with : EncoderState → Contexts → WriterState
writer_with e f = record { encoder = e; contexts = f }

abbrev reader_with : DecoderState → Contexts → ReaderState
reader_with d f = record { decoder = d; contexts = f }

-- bits within the last range lie within the range before any decisions
inside_before : (ds : List Decision) (e : EncoderState) (f : Contexts) (bs : Bits) → Fair f → Sound e
    → Inside (written ds (writer_with e f)).encoder bs → Inside e bs
unfolding written
inside_before [] e f bs h s i = i
inside_before (adaptive c b ∷ ds) e f bs h s i =
    encoded_within (f c) b e bs (h c).1 s
    (inside_before ds (encoded (f c) b e) (learned f c b) bs (learned_fair f c b h) (encoded_sound (f c) b e (h c).1 s) i)
inside_before (bypass b ∷ ds) e f bs h s i =
    encoded_within 128 b e bs (omega arith) s
    (inside_before ds (encoded 128 b e) f bs h (encoded_sound 128 b e (omega arith) s) i)

pub record Reads (r : ReaderState) (ds : List Decision) (e : EncoderState) (bs : Bits) : Type 0 where
  pub gives : Gives r ds
  pub follows : Follows (after r ds).decoder e bs

reads : (ds : List Decision) (d : DecoderState) (e : EncoderState) (f : Contexts) (bs : Bits) → Fair f → Sound e → Follows d e bs
    → Inside (written ds (writer_with e f)).encoder bs → Reads (reader_with d f) ds (written ds (writer_with e f)).encoder bs
unfolding written after read_adaptive read_bypass
reads [] d e f bs h s w i = record { gives = tt; follows = w }
reads (adaptive c b ∷ ds) d e f bs h s w i =
    let h₁ = learned_fair f c b h in
    let s₁ = encoded_sound (f c) b e (h c).1 s in
    let n = decided_follows (f c) b d e bs w (encoded_inside (f c) b e bs (inside_before ds (encoded (f c) b e) (learned f c b) bs h₁ s₁ i)) in
    let t = reads ds (decided (f c) d) (encoded (f c) b e) (learned f c b) bs h₁ s₁ n.1 i in
    let P : Bool → Type 0 = λ x. Reads (reader_with (decided (f c) d) (learned f c x)) ds (written ds (writer_with (encoded (f c) b e) (learned f c b))).encoder bs in
    let u = subst P (sym n.0) t in
    record { gives = (n.0, u.gives); follows = u.follows }
reads (bypass b ∷ ds) d e f bs h s w i =
    let s₁ = encoded_sound 128 b e (omega arith) s in
    let n = decided_follows 128 b d e bs w (encoded_inside 128 b e bs (inside_before ds (encoded 128 b e) f bs h s₁ i)) in
    let t = reads ds (decided 128 d) (encoded 128 b e) f bs h s₁ n.1 i in
    record { gives = (n.0, t.gives); follows = t.follows }

reads_from_start : (ds : List Decision) (bs : Bits) → Inside (written ds start_writer).encoder bs
    → Reads (start_reader bs) ds (written ds start_writer).encoder bs
unfolding start_reader start_writer
reads_from_start ds bs i = reads ds (start_decoder bs) start_encoder start_contexts bs start_fair start_sound (start_follows bs) i

pub read_back : ReadBack
read_back ds bs i = (reads_from_start ds bs i).gives

-- whatever is written, the writer's range is never small, and its bits hold the bottom of it
sound_after : (ds : List Decision) (e : EncoderState) (f : Contexts) → Fair f → Sound e → Sound (written ds (writer_with e f)).encoder
unfolding written
sound_after [] e f h s = s
sound_after (adaptive c b ∷ ds) e f h s = sound_after ds (encoded (f c) b e) (learned f c b) (learned_fair f c b h) (encoded_sound (f c) b e (h c).1 s)
sound_after (bypass b ∷ ds) e f h s = sound_after ds (encoded 128 b e) f h (encoded_sound 128 b e (omega arith) s)

pub written_sound : (ds : List Decision) → Sound (written ds start_writer).encoder
unfolding start_writer
written_sound ds = sound_after ds start_encoder start_contexts start_fair start_sound

-- FINISHED: the bytes that are kept have the same bits as all of them, which make the bottom of the last range

pub finished : (w : Writer) (bytes : List ℕ) → length bytes ≤ (w.bits + 7) / 8 → bits_of bytes ≡ bits_of (take ((w.bits + 7) / 8) (stored w.store))
    → (length bytes ≡ 0) ⊎ (0 < get_or bytes (length bytes - 1) 0) → Finished w bytes
unfolding zeros
finished w bytes within same last = record {
  within = omega arith;
  last = last;
  gives = λ ds e. (read ds e).gives;
  bottom = λ ds e. omega (arith, (follow ds e).offset, ap (prefix_value w.bits) all);
  rest = λ ds e. (follow ds e).rest ∙ after_bits;
}
  where
    bs : Bits
    bs = bits_of bytes

    all : bs ≡ bits_of (stored w.store)
    all = same ∙ bits_of_take (stored w.store) ((w.bits + 7) / 8) (λ n h. w.clean n (omega arith))

    after_bits : skip w.bits bs ≡ zeros
    after_bits = ap (skip w.bits) all ∙ fun_ext (λ n. w.clean (w.bits + n) (omega arith))

    read : (ds : List Decision) → writer_of w ≡ written ds start_writer → Reads (start_reader bs) ds (written ds start_writer).encoder bs
    read ds e = reads_from_start ds bs (subst (λ (x : WriterState). Inside x.encoder bs) e
        (record { bottom = omega (arith, ap (prefix_value w.bits) all); top = omega (arith, ap (prefix_value w.bits) all, w.low) }))

    follow : (ds : List Decision) → writer_of w ≡ written ds start_writer → Follows (after (start_reader bs) ds).decoder (writer_of w).encoder bs
    follow ds e = subst (λ (x : WriterState). Follows (after (start_reader bs) ds).decoder x.encoder bs) (sym e) (read ds e).follows

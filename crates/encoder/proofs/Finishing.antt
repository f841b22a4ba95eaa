-- A frame that was encoded: its bytes are read back as the blocks that were chosen.
use Rattle.std.proofs.Common.{◌≡◌, ℕ, ◌*◌, ◌/◌, ◌%◌, ◌<◌, ◌≤◌, Bool, List, ◌++◌, length, take, drop, None, Ok, Err, sym, refl, ap, ◌∙◌, subst, mul_comm, arith, rules}
use Rattle.std.proofs.lemmas.List.{places, take_at}
use Rattle.std.proofs.lemmas.Slice.{overwrites}
use Rattle.bits.specs.Bits.{bits_of}
use Rattle.range_coder.specs.Code.{Finished}
use Rattle.range_coder.specs.Decisions.{Decision, ReaderState, after, start_reader}
use Rattle.range_coder.specs.declared.writer.Writer.{Writer}
use Rattle.block.specs.Prediction.{predictable}
use Rattle.block.specs.Transform.{distance}
use Rattle.block.specs.declared.block.Block.{Block}
use Rattle.frame.specs.Frame.{Format, block_at, block_count, past, plane_size, shows, valid}
use Rattle.frame.specs.declared.rejection.Rejection.TheVariants.{BufferTooShort}
use Rattle.frame.specs.Saying.{frame_decisions}
use Rattle.frame.proofs.Blocks.{every_from, picture_of_same, pixel_block_below}
use Rattle.encoder.specs.Code.{Coded, InputCoded, input_rejection, worst_case}
use Rattle.encoder.specs.Progress.{FrameEncoded, Progress, input_format, reference_picture, source_picture}
use Rattle.encoder.specs.declared.input.FrameInput.{FrameInput}
use Rattle.encoder.proofs.Rows.{counted}
use Rattle.frame.proofs.ReadBack.{frame_read_back}

module _ (input : FrameInput) (w : Writer) (pixels : List ℕ) (long : length pixels ≡ 16 * block_count (input_format input))
    (e : FrameEncoded input (input_format input).down w pixels) (bytes : List ℕ) (fin : Finished w bytes) where
  abbrev f : Format
  f = input_format input

  abbrev key : Bool
  key = input.header.key

  abbrev p : Progress input (block_count f) w
  p = counted input (f.down * f.across) (block_count f) w (mul_comm f.down f.across) e.next

  -- the worst case is long enough
  pub fits : length bytes ≤ worst_case f
  fits = omega (arith, fin.within, p.spent)

  abbrev decisions : List Decision
  decisions = frame_decisions key p.blocks (block_count f)

  abbrev reader : ReaderState
  reader = start_reader (bits_of bytes)

  read : (past key reader (block_count f) ≡ after reader decisions) × ((i : ℕ) → i < block_count f → block_at key reader i ≡ p.blocks i)
  read = frame_read_back key p.blocks (block_count f) reader p.sayable (fin.gives decisions p.said)

  pub coded : Coded f key input.source.now input.reference.now bytes pixels
  unfolding valid shows
  coded = record {
    valid = every_from (block_count f) _ (λ i l.
        ap (λ (b : Block). predictable (plane_size f) (4 * (i % f.across)) (4 * (i / f.across)) b.prediction) (read.1 i l) ∙ p.within i l);
    holds = record {
      long = long;
      at = λ x y xl yl. e.drawn x y xl yl
          ∙ picture_of_same f (reference_picture input) p.blocks (block_at key reader) (λ i l. sym (read.1 i l)) x y xl yl;
    };
    close = λ x y xl yl.
        subst (λ n. distance n (source_picture input x y) ≤ f.step / 2) (sym (e.drawn x y xl yl)) (p.close x y xl yl (pixel_block_below f x y xl yl));
    bottom = ap (λ (r : ReaderState). r.decoder.offset) read.0 ∙ fin.bottom decisions p.said;
    rest = ap (λ (r : ReaderState). r.decoder.rest) read.0 ∙ fin.rest decisions p.said;
    last = fin.last;
    short = fits;
  }

  module _ (buffer output : List ℕ) (none : input_rejection input output ≡ None) where
    -- they are delivered, or the buffer is too short for them
    pub too_short : length buffer < length bytes → InputCoded (input_rejection input output) input buffer output (Err (BufferTooShort (length buffer))) buffer output
    too_short short =
        rw none
        (refl, omega (arith, fits), refl, refl, record { bytes = bytes; picture = pixels; coded = coded; longer = short })

    pub delivered : length bytes ≤ length buffer → (front shown : List ℕ) → front ≡ bytes → shown ≡ pixels
        → InputCoded (input_rejection input output) input buffer output (Ok (length bytes)) (front ++ drop (length bytes) buffer) shown
    delivered room front shown copied drawn =
        let Shows : List ℕ → List ℕ → Type 0 = Coded f key input.source.now input.reference.now in
        let taken : take (length bytes) (front ++ drop (length bytes) buffer) ≡ bytes
        = ap (λ xs. take (length bytes) (xs ++ drop (length bytes) buffer)) copied ∙ take_at bytes (drop (length bytes) buffer) _ refl in
        let long : length front ≡ length bytes = ap length copied in
        rw none (
          room,
          search (rules, overwrites),
          (λ i l. search (rules, places)),
          subst (λ xs. Shows xs shown) (sym taken) (subst (Shows bytes) (sym drawn) coded),
        )

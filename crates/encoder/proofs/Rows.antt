-- Blocks one after the other make a row, and rows one after the other a frame.
use Rattle.std.proofs.Common.{◌≡◌, ℕ, ◌+◌, ◌*◌, ◌/◌, ◌<◌, ◌≤◌, Bool, true, false, cond, eqb, List, [], length, get_or, refl, ap, ◌∙◌, arith}
use borrow.Rule.Slice.PartMut.{put_mid}
use Rattle.std.proofs.lemmas.Nat.{mul-add-lt}
use borrow.Author.Tests.{eqb_apart}
use Rattle.range_coder.specs.Code.{writer_of}
use Rattle.range_coder.specs.Decisions.{start_writer, written}
use Rattle.range_coder.specs.declared.writer.Writer.{Writer}
use Rattle.block.specs.declared.block.Block.{Block}
use Rattle.block.specs.declared.block.Prediction.TheVariants.{Flat}
use Rattle.frame.specs.Frame.{Format, block_of_pixel}
use Rattle.frame.specs.Saying.{frame_decisions}
use Rattle.frame.proofs.Bands.{drawn_more}
use Rattle.frame.proofs.Blocks.{pixel_same}
use Rattle.encoder.specs.Progress.{BlockEncoded, Extends, FrameEncoded, Progress, RowEncoded, input_format, picture_chosen, reference_picture}
use Rattle.encoder.specs.declared.input.FrameInput.{FrameInput}

module _ (input : FrameInput) where
  abbrev f : Format
  f = input_format input

  -- the same count, written otherwise
  abbrev pub counted : (n m : ℕ) (w : Writer) → n ≡ m → Progress input n w → Progress input m w
  counted n m w e p = record {
    blocks = p.blocks;
    said = p.said ∙ ap (λ k. written (frame_decisions input.header.key p.blocks k) start_writer) e;
    spent = omega (arith, p.spent);
    sayable = λ i l. p.sayable i (omega arith);
    within = λ i l. p.within i (omega arith);
    close = λ x y xl yl l. p.close x y xl yl (omega arith);
  }

  -- a pixel whose block was there before is the same when more blocks follow
  kept : (n : ℕ) (before after : ℕ → Block) → Extends n before after → (x y : ℕ) → block_of_pixel f x y < n →
      picture_chosen input before x y ≡ picture_chosen input after x y
  kept n before after e x y l = pixel_same f (reference_picture input) before after x y (e (block_of_pixel f x y) l)

  pub row_none : (row : ℕ) (w : Writer) (p : Progress input (row * f.across) w) (band : List ℕ) → RowEncoded input row 0 w w p band
  row_none row w p band = record {
    next = counted (row * f.across) (row * f.across + 0) w (omega arith) p;
    extends = λ i l. refl;
    drawn = λ x y xl _ yl. absurd (let z : ⊥ = omega arith in z);
  }

  pub row_more : (row n : ℕ) (w w₁ w₂ : Writer) (p : Progress input (row * f.across) w) (old new : List ℕ) →
      (r : RowEncoded input row n w w₁ p old) → BlockEncoded input row n w₁ w₂ r.next old new →
      RowEncoded input row (n + 1) w w₂ p new
  row_more row n w w₁ w₂ p old new r b = record {
    next = counted (row * f.across + n + 1) (row * f.across + (n + 1)) w₂ (omega arith) b.next;
    extends = λ i l. r.extends i l ∙ b.extends i (omega arith);
    drawn = λ x y xl xw yl. b.drawn x y xw yl ∙ go x y xl xw yl (eqb (x / 4) n) refl;
  }
    where
      go : (x y : ℕ) → x < 4 * (n + 1) → x < 4 * f.across → y < 4 → (t : Bool) → eqb (x / 4) n ≡ t →
          cond t (picture_chosen input b.next.blocks x (4 * row + y)) (get_or old (y * (4 * f.across) + x) 0)
          ≡ picture_chosen input b.next.blocks x (4 * row + y)
      go x y xl xw yl true h = refl
      go x y xl xw yl false h =
          let ne = eqb_apart (x / 4) n h in
          let lt : x / 4 < n = omega arith in
          let d : (4 * row + y) / 4 ≡ row = omega arith in
          let l : block_of_pixel f x (4 * row + y) < row * f.across + n = rw d (omega arith) in
          r.drawn x y (omega arith) xw yl ∙ kept (row * f.across + n) r.next.blocks b.next.blocks b.extends x (4 * row + y) l

  pub frame_none : (w : Writer) (pixels : List ℕ) → writer_of w ≡ start_writer → w.bits ≡ 8 → FrameEncoded input 0 w pixels
  unfolding frame_decisions written
  frame_none w pixels e s = record {
    next = counted 0 (0 * f.across) w (omega arith) (record {
      blocks = λ i. record { prediction = Flat 0; levels = [] };
      said = e;
      spent = omega arith;
      sayable = λ i l. absurd (let z : ⊥ = omega arith in z);
      within = λ i l. absurd (let z : ⊥ = omega arith in z);
      close = λ x y xl yl l. absurd (let z : ⊥ = omega arith in z);
    });
    drawn = λ x y xl yl. absurd (let z : ⊥ = omega arith in z);
  }

  pub frame_more : (row k a : ℕ) (w w₁ : Writer) (pixels band : List ℕ) (g : FrameEncoded input row w pixels) →
      RowEncoded input row f.across w w₁ g.next band →
      a ≡ row * (16 * f.across) → length band ≡ 16 * f.across → a ≤ length pixels →
      FrameEncoded input (row + 1) w₁ (put_mid a k pixels band)
  frame_more row k a w w₁ pixels band g r e lb le = record {
    next = counted (row * f.across + f.across) ((row + 1) * f.across) w₁ (omega arith) r.next;
    drawn = drawn_more f (picture_chosen input r.next.blocks) row k a pixels band
        (λ x y xl yl. g.drawn x y xl yl
        ∙ kept (row * f.across) g.next.blocks r.next.blocks r.extends x y (omega (arith, mul-add-lt (y / 4) f.across (x / 4) row (omega arith) (omega arith))))
        r.drawn e lb le;
  }

-- One block more: it is chosen, written and drawn, and those before it stay as they were.
use Rattle.std.proofs.Common.{◌≡◌, ℕ, ◌+◌, ◌*◌, ◌/◌, ◌%◌, ◌<◌, ◌≤◌, Bool, true, ◌⊎◌, List, ◌++◌, sym, ap, ◌∙◌, subst, inl, inr, add-one, arith}
use Rattle.std.proofs.lemmas.Nat.{mod-mul-add, div-mul-add}
use Rattle.std.proofs.lemmas.Bool.{cases_lt}
use Rattle.range_coder.specs.Code.{HasWritten, writer_of}
use Rattle.range_coder.specs.Decisions.{start_writer, written}
use Rattle.range_coder.specs.declared.writer.Writer.{Writer}
use Rattle.range_coder.proofs.Decisions.{written_append}
use Rattle.block.specs.Picture.{picture_in}
use Rattle.block.specs.Prediction.{predictable, predicted}
use Rattle.block.specs.Syntax.{SayableBlock, block_decisions}
use Rattle.block.specs.Transform.{distance, pixel_in, reconstructed}
use Rattle.block.specs.declared.block.Block.{Block}
use Rattle.block.specs.declared.step.Step.{Step}
use Rattle.frame.specs.declared.header.FrameHeader.{FrameHeader}
use Rattle.frame.specs.Decoding.{BlockPut}
use Rattle.frame.specs.Frame.{Format, block_count, block_of_pixel, block_predictable, picture_of, plane_size}
use Rattle.frame.specs.Saying.{frame_decisions}
use Rattle.frame.proofs.Blocks.{frame_decisions_same, last_or_before, pixel_same}
use Rattle.frame.proofs.Placed.{place_below, predictable_is, pixel_is, drawn}
use Rattle.encoder.specs.Progress.{BlockEncoded, BlockOf, Extends, Progress, input_format, reference_picture, source_picture}
use Rattle.encoder.specs.Choice.{ChosenAs}
use Rattle.encoder.specs.declared.choice.Choice.{Choice}
use Rattle.encoder.specs.declared.input.BlockInput.{BlockInput}
use Rattle.encoder.specs.declared.input.FrameInput.{FrameInput}
use Rattle.encoder.specs.Session.{put_at}
use Rattle.encoder.proofs.Sequences.{put_before, put_here}

module _ (input : FrameInput) (row column : ℕ) (rl : row < (input_format input).down) (cl : column < (input_format input).across)
    (few : block_count (input_format input) ≤ 224) (w w₁ : Writer) (p : Progress input (row * (input_format input).across + column) w)
    (at : BlockInput) (of : BlockOf input row column at) (choice : Choice) (chosen_as : ChosenAs at choice)
    (wrote : HasWritten 2192 (block_decisions input.header.key choice.block) w w₁) where
  abbrev f : Format
  f = input_format input

  abbrev key : Bool
  key = input.header.key

  abbrev b : Block
  b = choice.block

  -- what is said of the block, said of its place in the frame
  sayable : SayableBlock key b
  sayable = subst (λ (h : FrameHeader). SayableBlock h.key b) of.header chosen_as.sayable

  stays : predictable (plane_size f) (4 * column) (4 * row) b.prediction ≡ true
  stays = (λ i. predictable (sym of.size i) (sym of.left i) (sym of.top i) b.prediction) ∙ chosen_as.within

  shown : (x y : ℕ) → x < 4 → y < 4 →
      pixel_in choice.pixels x y ≡ reconstructed f.step b.levels (predicted (reference_picture input) (4 * column) (4 * row) b.prediction x y) x y
  shown x y xl yl = chosen_as.pixels x y xl yl
      ∙ (λ i. reconstructed (of.step i).value b.levels (predicted (picture_in (of.size i).width (of.pixels i)) (of.left i) (of.top i) b.prediction x y) x y)

  near : (x y : ℕ) → x < 4 → y < 4 → distance (pixel_in choice.pixels x y) (source_picture input (4 * column + x) (4 * row + y)) ≤ f.step / 2
  near x y xl yl =
      subst (λ n. distance (pixel_in choice.pixels x y) n ≤ f.step / 2) (of.source x y xl yl)
      (subst (λ (s : Step). distance (pixel_in choice.pixels x y) (pixel_in at.source x y) ≤ s.value / 2) of.step (chosen_as.close x y xl yl))

  abbrev place : ℕ
  place = row * f.across + column

  abbrev chosen : ℕ → Block
  chosen = put_at place b p.blocks

  chosen_here : chosen place ≡ b
  chosen_here = put_here Block p.blocks place b

  chosen_before : Extends place p.blocks chosen
  chosen_before i l = sym (put_before Block p.blocks place b i l)

  -- the decisions so far, and then the block's
  said_more : frame_decisions key p.blocks place ++ block_decisions key b ≡ frame_decisions key chosen (place + 1)
  unfolding frame_decisions
  said_more =
      (λ i. frame_decisions_same key p.blocks chosen place chosen_before i ++ block_decisions key (sym chosen_here i))
      ∙ ap (frame_decisions key chosen) (sym (add-one place))

  said : writer_of w₁ ≡ written (frame_decisions key chosen (place + 1)) start_writer
  said =
      wrote.same (omega (arith, p.spent, place_below f row column rl cl))
      ∙ ap (written (block_decisions key b)) p.said
      ∙ sym (written_append (frame_decisions key p.blocks place) (block_decisions key b) start_writer)
      ∙ ap (λ ds. written ds start_writer) said_more

  -- what holds of the blocks before and of this one holds of all
  all : (P : ℕ → Type 0) → ((i : ℕ) → i < place → P i) → P place → (i : ℕ) → i < place + 1 → P i
  all P before here i l = last_or_before P place before here i (omega arith)

  new_pixel : (x y : ℕ) → x / 4 ≡ column → y / 4 ≡ row →
      distance (picture_of f (reference_picture input) chosen x y) (source_picture input x y) ≤ f.step / 2
  new_pixel x y xc yr =
      let yl : y % 4 < 4 = omega arith in
      let xl : x % 4 < 4 = omega arith in
      let e : 4 * row + y % 4 ≡ y = omega arith in
      let d : 4 * column + x % 4 ≡ x = omega arith in
      let a : picture_of f (reference_picture input) chosen x y ≡ pixel_in choice.pixels (x % 4) (y % 4)
      = ap (picture_of f (reference_picture input) chosen x) (sym e)
      ∙ pixel_is f chosen row column cl b chosen_here (reference_picture input) x (y % 4) yl xc
      ∙ sym (shown (x % 4) (y % 4) xl yl) in
      let s : source_picture input x y ≡ source_picture input (4 * column + x % 4) (4 * row + y % 4)
      = λ i. source_picture input (sym d i) (sym e i) in
      subst (λ n. n ≤ f.step / 2) (λ i. distance (sym a i) (sym s i)) (near (x % 4) (y % 4) xl yl)

  close_more : (x y : ℕ) → x < 4 * f.across → y < 4 * f.down → block_of_pixel f x y < place + 1 →
      distance (picture_of f (reference_picture input) chosen x y) (source_picture input x y) ≤ f.step / 2
  close_more x y xl yl l = go (cases_lt (block_of_pixel f x y) place)
    where
      go : (block_of_pixel f x y < place) ⊎ (place ≤ block_of_pixel f x y) →
          distance (picture_of f (reference_picture input) chosen x y) (source_picture input x y) ≤ f.step / 2
      go (inl h) =
          subst (λ n. distance n (source_picture input x y) ≤ f.step / 2)
          (pixel_same f (reference_picture input) p.blocks chosen x y (chosen_before (block_of_pixel f x y) h))
          (p.close x y xl yl h)
      go (inr h) =
          let e : block_of_pixel f x y ≡ place = omega arith in
          new_pixel x y
          (sym (mod-mul-add (y / 4) f.across (x / 4) (omega arith)) ∙ ap (λ n. n % f.across) e ∙ mod-mul-add row f.across column cl)
          (sym (div-mul-add (y / 4) f.across (x / 4) (omega arith)) ∙ ap (λ n. n / f.across) e ∙ div-mul-add row f.across column cl)

  pub encoded : (old new : List ℕ) → BlockPut (4 * f.across) column choice.pixels old new → BlockEncoded input row column w w₁ p old new
  encoded old new put = record {
    next = record {
      blocks = chosen;
      said = said;
      spent = omega (arith, p.spent, wrote.spent);
      sayable = all (λ i. SayableBlock key (chosen i)) (λ i l. subst (SayableBlock key) (chosen_before i l) (p.sayable i l)) (subst (SayableBlock key) (sym chosen_here) sayable);
      within = all (λ i. block_predictable f chosen i ≡ true)
          (λ i l. ap (λ (q : Block). predictable (plane_size f) (4 * (i % f.across)) (4 * (i / f.across)) q.prediction) (sym (chosen_before i l)) ∙ p.within i l)
          (predictable_is f chosen row column cl b chosen_here ∙ stays);
      close = close_more;
    };
    extends = chosen_before;
    drawn = drawn f chosen row column cl b chosen_here (reference_picture input) choice.pixels old new shown put;
  }

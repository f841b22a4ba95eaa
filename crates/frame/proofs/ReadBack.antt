-- A frame's blocks that were said one after the other are read back.
use Rattle.std.proofs.Common.{◌≡◌, ℕ, zero, suc, ◌<◌, Bool, List, sym, refl, ap, ◌∙◌, arith}
use Rattle.range_coder.specs.Decisions.{ReaderState, Read, Decision, Gives, after}
use Rattle.range_coder.proofs.Decisions.{gives_front, gives_back, after_append}
use Rattle.block.specs.Syntax.{block_decisions, read_block}
use Rattle.block.specs.declared.block.Block.{Block}
use Rattle.frame.specs.Frame.{block_at, past}
use Rattle.frame.specs.Saying.{SayableBlocks, frame_decisions}
use Rattle.frame.proofs.Blocks.{last_or_before}
use Rattle.block.proofs.ReadBack.{block_read_back}

-- blocks that were said are read back, one after the other as each is
pub frame_read_back : (key : Bool) (blocks : ℕ → Block) (n : ℕ) (r : ReaderState) → SayableBlocks key blocks n → Gives r (frame_decisions key blocks n)
    → (past key r n ≡ after r (frame_decisions key blocks n)) × ((i : ℕ) → i < n → block_at key r i ≡ blocks i)
unfolding past block_at frame_decisions after
frame_read_back key blocks zero r say g = (refl, λ i l. absurd (let f : ⊥ = omega arith in f))
frame_read_back key blocks (suc n) r say g =
    let front : List Decision = frame_decisions key blocks n in
    let back : List Decision = block_decisions key (blocks n) in
    let ih = frame_read_back key blocks n r (λ i l. say i (omega arith)) (gives_front r front back g) in
    let one = ap (read_block key) ih.0 ∙ block_read_back key (blocks n) (after r front) (say n (omega arith)) (gives_back r front back g) in (
      ap (λ (q : Read Block). q.next) one ∙ sym (after_append r front back),
      last_or_before (λ i. block_at key r i ≡ blocks i) n ih.1 (ap (λ (q : Read Block). q.value) one),
    )

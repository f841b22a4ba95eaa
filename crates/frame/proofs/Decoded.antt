-- One block decoded: it is the frame's block at its place, and the reader stands after it.
use Rattle.std.proofs.Common.{◌≡◌, ℕ, ◌+◌, Bool, sym, ap, ◌∙◌, add-one}
use Rattle.range_coder.specs.Decisions.{ReaderState}
use Rattle.block.specs.Syntax.{read_block}
use Rattle.block.specs.declared.block.Block.{Block}
use Rattle.frame.specs.Frame.{block_at, past}

module _ (key : Bool) (r s : ReaderState) (n : ℕ) (e : s ≡ past key r n) where
  pub block_is : (b : Block) → (read_block key s).value ≡ b → block_at key r n ≡ b
  unfolding block_at
  block_is b read = ap (λ t. (read_block key t).value) (sym e) ∙ read

  pub past_is : (t : ReaderState) → (read_block key s).next ≡ t → t ≡ past key r (n + 1)
  unfolding past
  past_is t next = sym next ∙ ap (λ t. (read_block key t).next) e ∙ ap (past key r) (sym (add-one n))

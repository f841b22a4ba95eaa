-- The decisions that say a frame. Assumes nothing: these are definitions.
use Rattle.std.specs.Prelude.{ℕ, zero, suc, ◌<◌, Bool, List, [], ◌++◌}
use Rattle.range_coder.specs.Decisions.{Decision}
use Rattle.block.specs.Syntax.{block_decisions, SayableBlock}
use Rattle.block.specs.declared.block.Block.{Block}

-- the first n blocks, one after the other
unfoldable pub frame_decisions : (key : Bool) → (ℕ → Block) → ℕ → List Decision
frame_decisions key blocks zero = []
frame_decisions key blocks (suc n) = frame_decisions key blocks n ++ block_decisions key (blocks n)

abbrev pub SayableBlocks : (key : Bool) → (ℕ → Block) → ℕ → Type 0
SayableBlocks key blocks n = (i : ℕ) → i < n → SayableBlock key (blocks i)

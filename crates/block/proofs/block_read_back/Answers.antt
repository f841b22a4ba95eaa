use Rattle.block.proofs.ReadBack.{block_read_back}
use Rattle.block.proofs.block_read_back.Goals as goal

pub returns : goal.returns
returns c = block_read_back

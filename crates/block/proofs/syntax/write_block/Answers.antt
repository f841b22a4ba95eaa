use Rattle.block.proofs.Parts.{block_written}
use Rattle.block.proofs.syntax.write_block.Goals as goal

pub returns : goal.returns
returns c = block_written c.args.key c.args.block _ _ _ c.write_prediction.ensures c.write_residual.ensures

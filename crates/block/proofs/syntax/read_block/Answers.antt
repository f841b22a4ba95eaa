use Rattle.block.proofs.Parts.{block_read}
use Rattle.block.proofs.syntax.read_block.Goals as goal
use Rattle.std.proofs.Common.{rules}

pub returns : goal.returns
returns c = record {
  read = block_read c.args.key _ _ _ _ _ c.read_prediction-prediction.ensures.read c.read_residual-levels.ensures.read;
  sayable = record {
    prediction = c.read_prediction-prediction.ensures.sayable;
    sixteen = search rules;
    levels = c.read_residual-levels.ensures.sayable;
  };
}

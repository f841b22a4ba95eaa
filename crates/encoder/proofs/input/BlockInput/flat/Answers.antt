use Rattle.std.proofs.Common.{◌+◌, ◌*◌, refl, arith}
use Rattle.std.proofs.lemmas.List.{get_or-replicate}
use Rattle.block.specs.Prediction.{predictable, predicted}
use Rattle.encoder.proofs.input.BlockInput.flat.Goals as goal

pub returns : goal.returns
unfolding predictable predicted
returns c = record {
  sayable = omega arith;
  within = refl;
  pixels = λ x y xl yl. get_or-replicate 16 (4 * y + x) c.mean-value.result 0 (omega arith);
}

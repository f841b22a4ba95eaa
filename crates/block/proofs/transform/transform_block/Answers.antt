use Rattle.std.proofs.Common.{◌*◌, ◌^◌, lit≤}
use Rattle.block.proofs.Passes.{transformed_within, two_passes, wider}
use Rattle.block.proofs.transform.transform_block.Goals as goal

pub pass-requires : goal.pass-requires
pass-requires c = wider (2 ^ 38) (2 ^ 40) c.args.values (lit≤ tt) c.requires

pub pass-requires-2 : goal.pass-requires-2
pass-requires-2 c = transformed_within (2 ^ 38) c.args.values c.pass.result c.pass.ensures c.requires

pub returns : goal.returns
returns c = record {
  value = two_passes c.args.values c.pass.result c.pass-2.result c.pass.ensures c.pass-2.ensures;
  size = λ n small. transformed_within (4 * n) c.pass.result c.pass-2.result c.pass-2.ensures (transformed_within n c.args.values c.pass.result c.pass.ensures small);
}

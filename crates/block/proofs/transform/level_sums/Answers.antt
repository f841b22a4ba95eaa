use Rattle.std.proofs.Common.{◌+◌, ◌*◌, ◌^◌, pos, ◌*ℤ◌, ◌∙◌, arith}
use Rattle.block.specs.Transform.{value_in}
use Rattle.block.proofs.Inverse.{transform_same}
use Rattle.block.proofs.transform.level_sums.Goals as goal

pub returns : goal.returns
returns c = record {
  value = λ x y hx hy. c.transform_block.ensures.value x y hx hy
      ∙ transform_same (value_in c.all_scaled.result) (λ u v. pos c.args.step.value *ℤ value_in c.args.levels u v) x y (λ u v hu hv. c.all_scaled.ensures.value (4 * v + u) (omega arith));
  small = c.transform_block.ensures.size (2 ^ 37) c.all_scaled.ensures.small;
}

use Rattle.std.proofs.Common.{ℕ, ◌+◌, ◌*◌, ◌<◌, get_or, ap, ◌∙◌, arith, w8, Fits, rules}
use Rattle.block.specs.Stages.{Nearest, difference, nearest}
use Rattle.block.specs.Transform.{value_in}
use Rattle.block.proofs.Inverse.{transform_same}
use Rattle.block.proofs.Suffice.{nearest_close, nearest_within}
use Rattle.block.proofs.transform.nearest_levels.Goals as goal

pub all_nearest-requires : goal.all_nearest-requires
all_nearest-requires c = c.transform_block.ensures.size 255 c.differences.ensures.small

pub returns : goal.returns
returns c =
    let bytes : (i : ℕ) → (get_or c.args.prediction i 0 < 256) × (get_or c.args.source i 0 < 256)
    = λ i. let p : Fits w8 (get_or c.args.prediction i 0) = search rules in let s : Fits w8 (get_or c.args.source i 0) = search rules in (p.fits, s.fits) in
    let is : Nearest c.args.step.value c.all_nearest.result c.args.prediction c.args.source
    = λ u v hu hv. c.all_nearest.ensures (4 * v + u) (omega arith)
    ∙ ap (nearest c.args.step.value) (c.transform_block.ensures.value u v hu hv
    ∙ transform_same (value_in c.differences.result) (difference c.args.prediction c.args.source) u v (λ x y hx hy. c.differences.ensures.value (4 * y + x) (omega arith))) in
    record {
      is = is;
      small = nearest_within c.args.step.value c.all_nearest.result c.args.prediction c.args.source c.args.step.positive bytes is;
      close = nearest_close c.args.step.value c.all_nearest.result c.args.prediction c.args.source c.args.step.positive bytes is;
    }

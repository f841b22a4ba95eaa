use Rattle.std.proofs.Common.{◌≤◌, sym, rules}
use Rattle.block.specs.Transform.{pixel_in}
use Rattle.block.proofs.Empty.{prediction_kept}
use Rattle.block.proofs.transform.reconstruct.Goals as goal

pub returns-then-is_all_zero : goal.returns-then-is_all_zero
returns-then-is_all_zero c x y hx hy =
    let small : pixel_in c.args.prediction x y ≤ 255 = search rules in
    sym (prediction_kept _ c.args.levels _ x y (sym c.if-is_all_zero.ensures) small)

use Rattle.std.proofs.Common.{◌^◌, ◌≤◌, nat_abs, sym, subst}
use Rattle.block.proofs.Words.{product_fits, product_is, product_small}
use Rattle.block.proofs.step.Step.scaled.Goals as goal

pub overflow_mul-result : goal.overflow_mul-result
overflow_mul-result c = product_fits c.args.self.value c.args.level _ _ c.args.self.most c.ranges.level c.from.ensures c.from-2.ensures

pub returns : goal.returns
returns c =
    let is = product_is c.args.self.value c.args.level _ _ c.args.self.most c.ranges.level c.from.ensures c.from-2.ensures in
    record { value = is; small = subst (λ z. nat_abs z ≤ 2 ^ 37) (sym is) (product_small c.args.self.value c.args.level c.args.self.most c.ranges.level) }

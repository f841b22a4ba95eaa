use Rattle.std.proofs.Common.{◌≡◌, ◌/◌, ◌≤◌, ℤ, pos, ◌+ℤ◌, nat_abs, ◌∙◌, arith, w32, w64, to_z, of_z}
use Rattle.std.proofs.lemmas.Int.{ints}
use Rattle.block.specs.Stages.{nearest}
use Rattle.block.proofs.Near.{nearest_small}
use Rattle.block.proofs.step.Step.nearest.Goals as goal

narrowed : (r z : ℤ) → r ≡ z → nat_abs z ≤ 4080 → to_z w32 (of_z w32 (to_z w64 (of_z w64 r))) ≡ z
narrowed r z e small = omega (arith, ints)

pub returns : goal.returns
unfolding nearest
returns c =
    let sum : to_z w64 (of_z w64 (to_z w64 (of_z w64 c.args.coefficient) +ℤ to_z w64 (of_z w64 c.from.result))) ≡ c.args.coefficient +ℤ pos (c.args.self.value / 2) = omega (arith, ints) in
    let step : to_z w64 (of_z w64 c.from-2.result) ≡ pos c.args.self.value = omega (arith, ints) in
    narrowed c.div_euclid.result _ (c.div_euclid.ensures ∙ rw (sum, step)) (nearest_small c.args.self.value 4080 c.args.coefficient c.args.self.positive c.requires)

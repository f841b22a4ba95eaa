use Rattle.std.proofs.Common.{◌≡◌, true, false, not, ℤ, pos, ◌+ℤ◌, ap, ◌∙◌, arith, w64, to_z, of_z}
use Rattle.std.proofs.lemmas.Int.{ints}
use Rattle.block.specs.Prediction.{stays_within}
use Rattle.block.proofs.Motion.{moved_is, reaches_over, stays_unless_over}
use Rattle.block.proofs.prediction.moved_within.Goals as goal
use Rattle.block.proofs.prediction.moved_within.Goals.{then-by-lt0, else-by-lt0}

pub returns-then-over : goal.returns-then-over
returns-then-over c =
    let over : reaches_over c.args.end (pos c.args.first +ℤ c.args.by) c.args.by ≡ true =
    elim c.if-by-lt0.branch [ then-by-lt0 w ↦ grind (arith, ints) | else-by-lt0 w ↦ grind (arith, ints) ] in
    stays_unless_over c.args.end c.args.first c.args.by ∙ ap not over

stays : (c : goal.Else-over) → stays_within c.args.end c.args.first c.args.by ≡ true
stays c =
    let over : reaches_over c.args.end (pos c.args.first +ℤ c.args.by) c.args.by ≡ false =
    elim c.if-by-lt0.branch [ then-by-lt0 w ↦ grind (arith, ints) | else-by-lt0 w ↦ grind (arith, ints) ] in
    stays_unless_over c.args.end c.args.first c.args.by ∙ ap not over

pub returns-else-over : goal.returns-else-over
returns-else-over c =
    let start : ℤ = to_z w64 (of_z w64 (to_z w64 (of_z w64 c.from.result) +ℤ to_z w64 (of_z w64 c.from-2.result))) in
    let is : start ≡ pos c.args.first +ℤ c.args.by = omega (arith, ints) in
    (stays c, moved_is c.args.end c.args.first c.args.by start (stays c) is)

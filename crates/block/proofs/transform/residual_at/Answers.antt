use Rattle.std.proofs.Common.{◌≡◌, ◌+◌, ◌*◌, ◌%◌, get_or, pos, ◌+ℤ◌, ◌*ℤ◌, sym, ap, ◌∙◌, arith, w32, w64, SFits, rules}
use Rattle.std.proofs.lemmas.Int.{to_z-of_z}
use Rattle.block.specs.Transform.{floor16, residual, signed}
use Rattle.block.specs.Stages.{positive_at}
use Rattle.block.proofs.Plain.{plain_sum, sum_below, sum_none, term, term_added}
use Rattle.block.proofs.transform.residual_at.Goals as goal

pub loop-function-init : goal.loop-function-init
loop-function-init c = (sym (sum_none (term c.args.step.value c.args.levels (4 * (c.args.y % 4) + c.args.x % 4))), omega arith)

pub loop-function-preserved : goal.loop-function-preserved
loop-function-preserved c =
    let pixel = 4 * (c.args.y % 4) + c.args.x % 4 in
    let fits : SFits w32 (get_or c.args.levels c.loop-function.function (pos 0)) = search rules in
    term_added (term c.args.step.value c.args.levels pixel) c.loop-function.function _ c.level_at-sum.result c.loop-function-test.true
    (c.level_at-sum.ensures.value ∙ ap (λ z. signed (positive_at c.loop-function.function pixel) (pos c.args.step.value *ℤ z)) (to_z-of_z w32 _ fits)) c.level_at-sum.ensures.small c.loop-function.invariant

pub returns : goal.returns
unfolding residual
returns c =
    let pixel = 4 * (c.args.y % 4) + c.args.x % 4 in
    let all : c.loop-function.function ≡ 16 = omega arith in
    to_z-of_z w64 c.rounded_sixteenth.result (record { sfits = c.rounded_sixteenth.type_inv })
    ∙ c.rounded_sixteenth.ensures.value
    ∙ ap (λ z. floor16 (z +ℤ pos 8)) (c.loop-function.invariant.0 ∙ ap (sum_below (term c.args.step.value c.args.levels pixel)) all
    ∙ plain_sum c.args.step.value c.args.levels (c.args.x % 4) (c.args.y % 4) (omega arith) (omega arith))

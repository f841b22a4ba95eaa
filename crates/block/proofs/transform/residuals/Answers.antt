use Rattle.std.proofs.Common.{◌≡◌, ◌+◌, ◌*◌, get_or, pos, ◌+ℤ◌, ap, ◌∙◌, arith, rules}
use Rattle.block.specs.Transform.{floor16, residual}
use Rattle.block.proofs.Made.{each_made}
use Rattle.block.proofs.transform.residuals.Goals as goal

pub returns : goal.returns
unfolding residual
returns c x y hx hy =
    each_made _ _ (pos 0) (λ k z. z ≡ floor16 (get_or c.level_sums-sums.result k (pos 0) +ℤ pos 8)) 16 (λ k z q h called. search rules) _ c.from_fn.ensures.items (4 * y + x) (omega arith)
    ∙ ap (λ z. floor16 (z +ℤ pos 8)) (c.level_sums-sums.ensures.value x y hx hy)

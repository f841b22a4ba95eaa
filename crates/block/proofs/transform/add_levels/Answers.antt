use Rattle.std.proofs.Common.{◌≡◌, ◌+◌, ◌*◌, get_or, pos, ◌+ℤ◌, ap, ◌∙◌, arith, rules}
use Rattle.block.specs.Transform.{clipped, floor16, pixel_in, reconstructed, residual}
use Rattle.block.proofs.Made.{each_made}
use Rattle.block.proofs.transform.add_levels.Goals as goal

pub returns : goal.returns
unfolding reconstructed residual
returns c x y hx hy =
    each_made _ _ 0 (λ k p. p ≡ clipped (pos (get_or c.args.prediction k 0) +ℤ floor16 (get_or c.level_sums-sums.result k (pos 0) +ℤ pos 8))) 16 (λ k p q h called. search rules) _ c.from_fn.ensures.items (4 * y + x) (omega arith)
    ∙ ap (λ z. clipped (pos (pixel_in c.args.prediction x y) +ℤ floor16 (z +ℤ pos 8))) (c.level_sums-sums.ensures.value x y hx hy)

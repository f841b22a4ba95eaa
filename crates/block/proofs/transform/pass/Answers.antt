use Rattle.std.proofs.Common.{◌≡◌, ◌+◌, ◌*◌, ◌/◌, ◌%◌, List, [], ◌∷◌, get_or, ℤ, pos, ◌∙◌, arith, rules}
use Rattle.block.specs.Transform.{value_in}
use Rattle.block.specs.Stages.{transform4}
use Rattle.block.proofs.Made.{each_made}
use Rattle.block.proofs.Passes.{below_four}
use Rattle.block.proofs.transform.pass.Goals as goal

pub returns : goal.returns
returns c x y hx hy =
    let columns : List (List ℤ) = c.transformed_row.result ∷ c.transformed_row-2.result ∷ c.transformed_row-3.result ∷ c.transformed_row-4.result ∷ [] in
    let across : (4 * y + x) % 4 ≡ x = omega arith in
    let down : (4 * y + x) / 4 ≡ y = omega arith in
    each_made _ _ (pos 0) (λ k z. z ≡ get_or (get_or columns (k % 4) []) (k / 4) (pos 0)) 16 (λ k z q h called. search rules) _ c.from_fn.ensures.items (4 * y + x) (omega arith)
    ∙ rw (across, down) (below_four (λ x. get_or (get_or columns x []) y (pos 0) ≡ transform4 (λ u. value_in c.args.rows u x) y)
    (c.transformed_row.ensures y hy) (c.transformed_row-2.ensures y hy) (c.transformed_row-3.ensures y hy) (c.transformed_row-4.ensures y hy) x hx)

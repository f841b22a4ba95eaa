use Rattle.std.proofs.Common.{◌≡◌, get_or, pos, rules}
use Rattle.block.specs.Stages.{nearest}
use Rattle.block.proofs.Made.{each_made}
use Rattle.block.proofs.transform.all_nearest.Goals as goal

pub returns : goal.returns
returns c = each_made _ _ (pos 0) (λ k z. z ≡ nearest c.args.step.value (get_or c.args.coefficients k (pos 0))) 16 (λ k z q h called. search rules) _ c.from_fn.ensures.items

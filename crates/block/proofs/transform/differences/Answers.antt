use Rattle.std.proofs.Common.{◌≡◌, ◌≤◌, get_or, pos, ◌-ℤ◌, nat_abs, rules}
use Rattle.block.proofs.Made.{each_made}
use Rattle.block.proofs.transform.differences.Goals as goal

pub returns : goal.returns
returns c =
    let made = each_made _ _ (pos 0) (λ k z. (z ≡ pos (get_or c.args.source k 0) -ℤ pos (get_or c.args.prediction k 0)) × (nat_abs z ≤ 255)) 16 (λ k z q h called. search rules) _ c.from_fn.ensures.items in
    record { value = λ i h. (made i h).0; small = λ i h. (made i h).1 }

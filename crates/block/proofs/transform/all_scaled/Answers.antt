use Rattle.std.proofs.Common.{◌≡◌, ◌^◌, ◌≤◌, get_or, pos, ◌*ℤ◌, nat_abs, rules}
use Rattle.block.proofs.Made.{each_made}
use Rattle.block.proofs.transform.all_scaled.Goals as goal

pub returns : goal.returns
returns c =
    let made = each_made _ _ (pos 0) (λ k z. (z ≡ pos c.args.step.value *ℤ get_or c.args.levels k (pos 0)) × (nat_abs z ≤ 2 ^ 37)) 16 (λ k z q h called. search rules) _ c.from_fn.ensures.items in
    record { value = λ i h. (made i h).0; small = λ i h. (made i h).1 }

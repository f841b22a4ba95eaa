use Rattle.std.proofs.Common.{◌^◌, ◌≤◌, nat_abs, sym, subst}
use Rattle.block.proofs.Words.{sixteenth_is, sixteenth_small}
use Rattle.block.proofs.transform.rounded_sixteenth.Goals as goal

pub returns : goal.returns
returns c =
    let is = sixteenth_is c.args.sum c.requires in
    record { value = is; small = subst (λ z. nat_abs z ≤ 2 ^ 41) (sym is) (sixteenth_small c.args.sum c.requires) }

use Rattle.std.proofs.Common.{◌≡◌, ◌+◌, ◌-◌, ◌/◌, ◌≢◌, get_or, ◌∙◌, arith, get_or-set_other}
use Rattle.bits.proofs.Adding.{add_at_place, no_carry}
use Rattle.bits.proofs.add_at.Goals as goal

pub loop-i-preserved : goal.loop-i-preserved
loop-i-preserved c =
    let i = c.loop-i.i in
    let p : c.args.last - (i - 1) ≡ c.args.last + 1 - i = omega arith in
    record {
      small = omega arith;
      sum = rw (p, c.from.ensures) (add_at_place c.loop-i.bytes i c.args.last c.loop-i.carry (omega arith) (omega arith) ∙ c.loop-i.invariant.sum);
      after = λ k h. (let ne : k ≢ i = omega arith in rw get_or-set_other (c.loop-i.invariant.after k h));
    }

pub returns-else-carry-eq0-clause-sum : goal.returns-else-carry-eq0-clause-sum
returns-else-carry-eq0-clause-sum c within fits =
    let i = c.loop-i.i in
    let e : c.args.last + 1 - i ≡ c.args.last + 1 = omega arith in
    let turn = add_at_place c.loop-i.bytes i c.args.last c.loop-i.carry (omega arith) (omega arith) ∙ c.loop-i.invariant.sum in
    rw c.from.ensures (no_carry _ _ ((get_or c.loop-i.bytes i 0 + c.loop-i.carry) / 256) (c.args.last + 1) (rw e at turn) fits)

pub returns-else-carry-eq0-clause-after : goal.returns-else-carry-eq0-clause-after
returns-else-carry-eq0-clause-after c k h = let ne : k ≢ c.loop-i.i = omega arith in rw get_or-set_other (c.loop-i.invariant.after k h)

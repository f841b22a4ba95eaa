use Rattle.std.proofs.Common.{arith, rules}
use Rattle.bits.proofs.Prefixes.{Bytes}
use Rattle.range_coder.proofs.Bottom.{narrows_false, narrows_true, raised}
use Rattle.range_coder.proofs.narrowing.narrow.Goals as goal

pub returns-then-not-decision-clause-same : goal.returns-then-not-decision-clause-same
returns-then-not-decision-clause-same c =
    narrows_false c.args.bytes.now c.args.bits c.args.range c.args.p c.split-split.result c.args.decision c.if-not-decision.true c.split-split.ensures.is

pub returns : goal.returns
returns c =
    let before : Bytes c.args.bytes.now = λ i. search rules in
    let after : Bytes c.add_at.new.bytes = λ i. search rules in
    let s = c.split-split.result in
    let r = raised c.args.bytes.now c.add_at.new.bytes c.args.bits s (omega arith) (omega arith) before after
    c.requires.clean (omega arith) (c.add_at.ensures.sum (omega arith)) c.add_at.ensures.after in
    record {
      same = narrows_true c.args.bytes.now c.add_at.new.bytes c.args.bits c.args.range c.args.p s c.args.decision c.if-not-decision.false c.split-split.ensures.is r.0;
      clean = r.1;
      some = omega arith;
    }

use Rattle.std.proofs.Common.{◌≡◌, ◌%◌, get_or, ap, ◌∙◌, arith}
use Rattle.std.proofs.lemmas.List.{get_or_default}
use Rattle.range_coder.specs.Coding.{adapted}
use Rattle.range_coder.proofs.Probabilities.{Probability, adapted_probability, fair_set, learned_set}
use Rattle.range_coder.proofs.contexts.Contexts.learn.Goals as goal

pub invariant_of-self : goal.invariant_of-self
invariant_of-self c =
    let xs = c.args.self.now.probability in
    let i = c.args.context % 64 in
    let e : get_or xs i 0 ≡ get_or xs i 128 = get_or_default xs i 0 128 (omega arith) in
    let h : Probability c.adapted.result = rw (c.adapted.ensures, e) (adapted_probability (get_or xs i 128) c.args.decision (c.args.self.now.fair i (omega arith))) in
    record { fair = fair_set xs i c.adapted.result (omega arith) h c.args.self.now.fair }

pub returns : goal.returns
returns c =
    let xs = c.args.self.now.probability in
    let i = c.args.context % 64 in
    learned_set xs i c.adapted.result c.args.decision (omega arith)
    (c.adapted.ensures ∙ ap (λ p. adapted p c.args.decision) (get_or_default xs i 0 128 (omega arith)))

use Rattle.std.proofs.Common.{◌%◌, sym, ap, ◌∙◌}
use Rattle.range_coder.specs.Code.{reader_of}
use Rattle.range_coder.specs.Coding.{decided, decision}
use Rattle.range_coder.specs.Decisions.{ReaderState, learned, read_adaptive}
use Rattle.range_coder.proofs.reader.Reader.adaptive.Goals as goal

pub returns : goal.returns
unfolding read_adaptive
returns c =
    let r : ReaderState = reader_of c.args.self.now in
    let q = c.args.context % 64 in
    let p = sym c.get.ensures.is in
    let is = ap (λ x. decision x r.decoder) p ∙ sym c.decide-decision.ensures.value in
    let next = ap (λ x. decided x r.decoder) p ∙ sym c.decide-decision.ensures.next in
    let learns = ap (learned r.contexts q) is ∙ sym c.learn.ensures in
    record { bytes = c.decide-decision.ensures.bytes; is = is; next = λ i. record { decoder = next i; contexts = learns i } }

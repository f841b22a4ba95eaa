use Rattle.std.proofs.Common.{◌%◌, ap, ◌∙◌, arith}
use Rattle.range_coder.specs.Code.{contexts_in, writer_of}
use Rattle.range_coder.specs.Coding.{encoded}
use Rattle.range_coder.specs.Decisions.{WriterState, learned, written}
use Rattle.range_coder.proofs.writer.Writer.adaptive.Goals as goal

pub returns : goal.returns
unfolding written
returns c =
    let w : WriterState = writer_of c.args.self.now in
    let q = c.args.context % 64 in
    let b = c.args.decision in
    let kept = ap (λ x. learned (contexts_in x.probability) q b) c.write.ensures.contexts in
    record {
      same = λ room. λ i. record {
        encoder = (c.write.ensures.same (omega arith) ∙ ap (λ p. encoded p b w.encoder) c.get-p.ensures.is) i;
        contexts = (c.learn.ensures ∙ kept) i;
      };
      spent = c.write.ensures.spent;
    }

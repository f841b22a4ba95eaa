use Rattle.std.proofs.Common.{sym, ◌∙◌, arith}
use Rattle.range_coder.specs.Code.{decoder_of}
use Rattle.range_coder.specs.Coding.{DecoderState}
use Rattle.range_coder.proofs.Coding.{decision_false, decision_true, decided_false, decided_true}
use Rattle.range_coder.proofs.decoder.Decoder.decide.Goals as goal

pub returns-then-self-split : goal.returns-then-self-split
returns-then-self-split c =
    let d : DecoderState = decoder_of c.args.self in
    record {
      value = sym (decision_false c.args.p d (omega arith));
      bytes = c.renormalise.ensures.bytes;
      next = c.renormalise.ensures.is ∙ sym (decided_false c.args.p d _ c.split-split.ensures.is (omega arith));
    }

pub returns-else-self-split : goal.returns-else-self-split
returns-else-self-split c =
    let d : DecoderState = decoder_of c.args.self in
    record {
      value = sym (decision_true c.args.p d (omega arith));
      bytes = c.renormalise-else-self-split.ensures.bytes;
      next = c.renormalise-else-self-split.ensures.is ∙ sym (decided_true c.args.p d _ c.split-split.ensures.is (omega arith));
    }

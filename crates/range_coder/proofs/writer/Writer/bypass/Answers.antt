use Rattle.std.proofs.Common.{refl, arith}
use Rattle.range_coder.specs.Code.{contexts_in}
use Rattle.range_coder.specs.Decisions.{written}
use Rattle.range_coder.proofs.writer.Writer.bypass.Goals as goal

pub returns : goal.returns
unfolding written
returns c = record {
  same = λ room. λ i. record {
    encoder = c.write.ensures.same (omega arith) i;
    contexts = contexts_in (c.write.ensures.contexts i).probability;
  };
  spent = c.write.ensures.once refl;
}

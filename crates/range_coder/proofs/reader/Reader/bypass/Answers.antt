use Rattle.std.proofs.Common.{sym}
use Rattle.range_coder.specs.Code.{contexts_in}
use Rattle.range_coder.specs.Decisions.{read_bypass}
use Rattle.range_coder.proofs.reader.Reader.bypass.Goals as goal

pub returns : goal.returns
unfolding read_bypass
returns c = record {
  bytes = c.decide-decision.ensures.bytes;
  is = sym c.decide-decision.ensures.value;
  next = λ i. record { decoder = sym c.decide-decision.ensures.next i; contexts = contexts_in c.args.self.now.contexts.probability };
}

use Rattle.std.proofs.Common.{◌∙◌, arith, length-take}
use Rattle.bits.proofs.Positions.{last_byte_zero}
use Rattle.bits.proofs.trimmed.Goals as goal

pub loop-kept-preserved : goal.loop-kept-preserved
loop-kept-preserved c = record {
  within = simp length-take (omega arith);
  same = last_byte_zero c.loop-kept.kept.now (omega arith) ∙ c.loop-kept.invariant.same;
}

use Rattle.std.proofs.Common.{ℕ, arith}
use Rattle.std.proofs.lemmas.List.{length-replicate}
use Rattle.range_coder.specs.Coding.{start_encoder}
use Rattle.range_coder.specs.Decisions.{start_writer}
use Rattle.range_coder.proofs.Bottom.{zeros_clean, zeros_prefix}
use Rattle.range_coder.proofs.writer.Writer.new.Goals as goal

pub invariant_of-result : goal.invariant_of-result
invariant_of-result c = record {
  low = omega arith;
  high = omega arith;
  first = omega arith;
  room = omega arith;
  sized = length-replicate {A = ℕ} 1024 0;
  top = omega (arith, zeros_prefix 1024 8);
  clean = λ n _. zeros_clean 1024 n;
}

pub returns-clause-start : goal.returns-clause-start
unfolding start_writer start_encoder
returns-clause-start c = λ i. record { encoder = record { low = zeros_prefix 1024 8 i; range = 256; length = 8 }; contexts = c.new.ensures i }

use Rattle.range_coder.specs.Decisions.{start_reader}
use Rattle.range_coder.proofs.reader.Reader.new.Goals as goal

pub returns-clause-start : goal.returns-clause-start
unfolding start_reader
returns-clause-start c = λ i. record { decoder = c.new.ensures.start i; contexts = c.new-2.ensures i }

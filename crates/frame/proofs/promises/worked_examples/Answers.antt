use Rattle.frame.proofs.Examples.{examples_drawn, examples_read, more_read}
use Rattle.frame.proofs.promises.worked_examples.Goals as goal

pub returns : goal.returns
returns c = record { read = examples_read; more = more_read; drawn = examples_drawn }

use Rattle.frame.proofs.Saying.{said_in_bits}
use Rattle.frame.proofs.promises.said_in_bits.Goals as goal

pub returns : goal.returns
returns c = said_in_bits

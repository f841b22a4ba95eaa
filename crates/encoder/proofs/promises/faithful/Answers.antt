use Rattle.encoder.proofs.Following.{faithful}
use Rattle.encoder.proofs.promises.faithful.Goals as goal

pub returns : goal.returns
returns c = faithful

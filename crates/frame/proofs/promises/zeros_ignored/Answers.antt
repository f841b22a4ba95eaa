use Rattle.frame.proofs.Padding.{zeros_ignored}
use Rattle.frame.proofs.promises.zeros_ignored.Goals as goal

pub returns : goal.returns
returns c = zeros_ignored

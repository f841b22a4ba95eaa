use Rattle.encoder.proofs.Lengthening.{lossless_at_one}
use Rattle.encoder.proofs.promises.lossless_at_one.Goals as goal

pub returns : goal.returns
returns c = lossless_at_one

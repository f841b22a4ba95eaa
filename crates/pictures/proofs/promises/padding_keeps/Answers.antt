use Rattle.pictures.proofs.PaddedCorner.{kept}
use Rattle.pictures.proofs.promises.padding_keeps.Goals as goal

pub returns : goal.returns
returns c = kept

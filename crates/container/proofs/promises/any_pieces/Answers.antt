use Rattle.container.proofs.Pieces.{reads_alike}
use Rattle.container.proofs.promises.any_pieces.Goals as goal

pub returns : goal.returns
returns c front bytes ps s small f = reads_alike front bytes ps s small f

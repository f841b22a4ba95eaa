use Rattle.pictures.proofs.ReadBack.{header_back}
use Rattle.pictures.proofs.promises.reads_back.Goals as goal

pub returns : goal.returns
returns c size rate p w q h f s = header_back size rate w h f s p q

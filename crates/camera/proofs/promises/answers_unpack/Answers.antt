use Rattle.camera.proofs.Fields.{unpacks}
use Rattle.camera.proofs.promises.answers_unpack.Goals as goal

pub returns : goal.returns
returns c = unpacks

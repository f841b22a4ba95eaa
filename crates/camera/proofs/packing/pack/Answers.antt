use Rattle.camera.proofs.Fields.{packs}
use Rattle.camera.proofs.packing.pack.Goals as goal

pub returns-in-Ok : goal.returns-in-Ok
returns-in-Ok c = packs _ _ c.in-Ok.is c.requires _ c.pack_answer.ensures

pub returns-in-Err : goal.returns-in-Err
returns-in-Err c = packs _ _ c.in-Err.is c.requires _ c.pack_rejection.ensures

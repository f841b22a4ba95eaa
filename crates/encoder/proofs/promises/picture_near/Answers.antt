use Rattle.encoder.proofs.Sessions.{picture_near}
use Rattle.encoder.proofs.promises.picture_near.Goals as goal

pub returns : goal.returns
returns c = picture_near

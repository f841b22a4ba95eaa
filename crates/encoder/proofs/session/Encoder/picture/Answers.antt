use Rattle.encoder.proofs.Sessions.{picture_near}
use Rattle.encoder.proofs.session.Encoder.picture.Goals as goal

pub returns-clause-last : goal.returns-clause-last
returns-clause-last c = rw c.pixel_count.ensures (picture_near c.args.self.now)

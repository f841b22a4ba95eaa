use Rattle.encoder.proofs.Lengthening.{frames_kept}
use Rattle.encoder.proofs.promises.frames_kept.Goals as goal

pub returns : goal.returns
returns c = frames_kept

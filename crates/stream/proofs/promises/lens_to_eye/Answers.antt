use Rattle.stream.proofs.Knowing.{lens_to_eye}
use Rattle.stream.proofs.OverRuns.{lens_to_eye_over_runs}
use Rattle.stream.proofs.promises.lens_to_eye.Goals as goal

pub returns : goal.returns
returns c = record { definitions = lens_to_eye; runs = lens_to_eye_over_runs }

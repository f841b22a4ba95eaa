use Rattle.stream.proofs.Steps.{goes_on, late_ignored, next_moves, recovers}
use Rattle.stream.proofs.promises.receiver_steps.Goals as goal

pub returns : goal.returns
returns c = record { recovers = recovers; «goes_on» = goes_on; late = late_ignored; next = next_moves }

use Rattle.frame.proofs.Keys.{key_alone, key_valid}
use Rattle.frame.proofs.promises.key_alone.Goals as goal

pub returns : goal.returns
returns c = record { picture = key_alone; valid = key_valid }

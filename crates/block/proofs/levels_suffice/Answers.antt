use Rattle.block.proofs.Suffice.{levels_suffice}
use Rattle.block.proofs.levels_suffice.Goals as goal

pub returns : goal.returns
returns c = levels_suffice

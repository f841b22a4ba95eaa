use Rattle.block.specs.Transform.{distance}
use Rattle.block.proofs.closeness.distance.Goals as goal

pub returns : goal.returns
unfolding distance
returns c = c.abs_diff.ensures

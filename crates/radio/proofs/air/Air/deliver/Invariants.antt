use Rattle.std.proofs.Common.{length}
use Rattle.radio.proofs.air.Air.deliver.Given as goal

abbrev pub decreases-loop-late : goal.decreases-loop-late
decreases-loop-late l = length l.self.held.items

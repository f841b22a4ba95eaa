use Rattle.std.proofs.Common.{rules}
use Rattle.block.proofs.Parts.{levels_read, no_levels_read}
use Rattle.block.proofs.syntax.read_residual.Goals as goal

pub returns-then-adaptive : goal.returns-then-adaptive
returns-then-adaptive c = record {
  read = levels_read _ _ _ _ c.if-adaptive.ensures c.read_levels.ensures.read;
  sayable = c.read_levels.ensures.small;
}

pub returns-else-adaptive : goal.returns-else-adaptive
returns-else-adaptive c = record { read = no_levels_read _ _ c.if-adaptive.ensures; sayable = search rules }

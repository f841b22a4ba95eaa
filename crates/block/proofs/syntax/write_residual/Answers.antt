use Rattle.std.proofs.Common.{sym}
use Rattle.block.proofs.Parts.{levels_written, no_levels_written}
use Rattle.block.proofs.syntax.write_residual.Goals as goal

pub returns-then-is_all_zero : goal.returns-then-is_all_zero
returns-then-is_all_zero c = no_levels_written c.args.levels _ _ (sym c.if-is_all_zero.ensures) c.adaptive.ensures

pub returns-else-is_all_zero : goal.returns-else-is_all_zero
returns-else-is_all_zero c =
    levels_written c.args.levels _ _ _ (sym c.if-is_all_zero.ensures) c.adaptive-else-is_all_zero.ensures c.write_levels.ensures

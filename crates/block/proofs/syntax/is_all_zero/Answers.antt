use Rattle.std.proofs.Common.{◌∙◌, rules}
use Rattle.block.proofs.Parts.{equal_to_zeros}
use Rattle.block.proofs.syntax.is_all_zero.Goals as goal

pub returns : goal.returns
returns c = c.eq.ensures ∙ equal_to_zeros c.args.levels 16 (search rules)

use Rattle.text.proofs.Spacing.{row_none}
use Rattle.text.proofs.writing.write_row.Goals as goal

pub returns-in_default : goal.returns-in_default
returns-in_default c = row_none c.args.row.now _ c.in_default.ensures.cases c.new.ensures.bytes

use Rattle.std.proofs.Common.{sym, ◌∙◌}
use Rattle.console.proofs.LineEnds.{at_newline, before_newline, no_newline}
use Rattle.console.proofs.lines.line_end.Goals as goal

pub returns-in-Some-clause-before : goal.returns-in-Some-clause-before
returns-in-Some-clause-before c = before_newline c.args.bytes.now c.args.start c.requires c.in-Some.index (sym c.newline.ensures ∙ c.in-Some.is)

pub returns-in-Some-clause-found : goal.returns-in-Some-clause-found
returns-in-Some-clause-found c h = at_newline c.args.bytes.now c.args.start c.requires c.in-Some.index (sym c.newline.ensures ∙ c.in-Some.is)

pub returns-in-None-clause-before : goal.returns-in-None-clause-before
returns-in-None-clause-before c = no_newline c.args.bytes.now c.args.start c.requires (sym c.newline.ensures ∙ c.in-None.is)

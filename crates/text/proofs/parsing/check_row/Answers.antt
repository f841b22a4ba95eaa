use Rattle.std.proofs.Common.{sym, ap, ◌∙◌}
use Rattle.std.proofs.lemmas.Result.{err_from_is_err_and}
use Rattle.text.specs.Text.{outcome}
use Rattle.text.specs.Line.{left}
use Rattle.text.proofs.Gathering.{pixels_rejected, outcome_turn, outcome_done}
use Rattle.text.proofs.parsing.check_row.Goals as goal

pub returns-in_err-byte : goal.returns-in_err-byte
returns-in_err-byte c =
    let p = err_from_is_err_and c.from_residual.result c.from_residual.ensures.1 in
    rw (p.1, p.2) (sym (c.loop.invariant ∙ ap outcome (pixels_rejected _ _ c.loop-test.true (left c.loop.words) _ c.in_err-byte.ensures)))

pub loop-preserved : goal.loop-preserved
loop-preserved c = c.loop.invariant ∙ outcome_turn _ _ c.loop-test.true (left c.loop.words) (left c.byte.new.self) _ c.in_ok-byte.ensures

pub returns : goal.returns
returns c = c.end.ensures ∙ sym (c.loop.invariant ∙ outcome_done _ _ (left c.loop.words) c.loop-test.false)

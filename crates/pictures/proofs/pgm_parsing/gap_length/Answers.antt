use Rattle.std.proofs.Common.{arith}
use Rattle.pictures.proofs.Gaps.{gap_more, gap_stop, gap_end}
use Rattle.pictures.proofs.pgm_parsing.gap_length.Goals as goal

pub loop-length-preserved : goal.loop-length-preserved
loop-length-preserved c = gap_more _ _ _ _ c.loop-length.invariant _ c.loop-length-test.true c.if-not-is_in_gap.ensures c.is_comment_after-comment.ensures

pub returns-then-not-is_in_gap-clause-value : goal.returns-then-not-is_in_gap-clause-value
returns-then-not-is_in_gap-clause-value c = gap_stop _ _ _ _ c.loop-length.invariant c.loop-length-test.true c.if-not-is_in_gap.ensures

pub returns-clause-value : goal.returns-clause-value
returns-clause-value c = omega (arith, gap_end _ _ _ _ c.loop-length.invariant c.loop-length-test.false, c.loop-length.auto.length-end)

use Rattle.std.proofs.Common.{ap, ◌∙◌, arith}
use Rattle.text.specs.Line.{left, answered}
use Rattle.text.proofs.Gathering.{fill_good, fill_more, fill_done}
use Rattle.text.proofs.parsing.fill_row.Goals as goal

pub unwrap-requires : goal.unwrap-requires
unwrap-requires c =
    fill_good _ _ _ _ (left c.loop-pixel.words) c.loop-pixel.invariant c.byte.result (left c.byte.new.self) c.loop-pixel-test.true c.requires c.byte.ensures

pub loop-pixel-preserved : goal.loop-pixel-preserved
loop-pixel-preserved c =
    let vs = left c.byte.new.self in
    fill_more _ _ _ _ (left c.loop-pixel.words) c.loop-pixel.invariant vs c.unwrap.result c.loop-pixel-test.true (omega arith)
    (c.byte.ensures ∙ ap (λ r. answered r vs) c.unwrap.ensures)

pub returns : goal.returns
returns c = fill_done _ _ _ _ (left c.loop-pixel.words) c.loop-pixel.invariant c.loop-pixel-test.false (omega arith) c.requires

use Rattle.std.proofs.Common.{arith}
use Rattle.std.proofs.lemmas.List.FromFn.{fill_by_all}
use Rattle.pictures.specs.Picture.{mark_pixel}
use Rattle.pictures.proofs.strip.mark_row.Goals as goal

pub returns : goal.returns
returns c = fill_by_all (mark_pixel c.args.mark) _ _ 0 c.loop-column.auto.row (λ k h. c.loop-column.invariant k (omega arith))

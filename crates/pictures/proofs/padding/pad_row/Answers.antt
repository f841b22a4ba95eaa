use Rattle.std.proofs.Common.{arith}
use Rattle.std.proofs.lemmas.List.FromFn.{fill_by_all}
use Rattle.pictures.specs.Picture.{padded_pixel}
use Rattle.pictures.proofs.padding.pad_row.Goals as goal

pub returns : goal.returns
returns c = fill_by_all (padded_pixel c.args.pixels.now) _ _ 0 c.loop-column.auto.row (λ k h. c.loop-column.invariant k (omega arith))

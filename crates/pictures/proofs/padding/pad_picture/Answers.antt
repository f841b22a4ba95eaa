use Rattle.std.proofs.Common.{arith}
use Rattle.std.proofs.lemmas.List.FromFn.{fill_by_all}
use Rattle.pictures.specs.Picture.{padded_picture_pixel}
use Rattle.pictures.proofs.padding.pad_picture.Goals as goal

pub returns : goal.returns
returns c = fill_by_all (padded_picture_pixel c.args.pixels.now c.args.size) _ _ 0 c.loop-index.auto.picture (λ k h. c.loop-index.invariant k (omega arith))

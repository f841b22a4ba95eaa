use Rattle.std.proofs.Common.{◌≡◌, ℕ, ◌<◌, get_or}
use Rattle.pictures.specs.Picture.{padded_picture_pixel}
use Rattle.pictures.proofs.padding.pad_picture.Given as goal

abbrev pub invariant-loop-index : goal.invariant-loop-index
invariant-loop-index l = (k : ℕ) → k < l.index → get_or l.picture k 0 ≡ padded_picture_pixel l.pixels l.size k

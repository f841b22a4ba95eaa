use Rattle.std.proofs.Common.{◌≡◌, ℕ, ◌<◌, get_or}
use Rattle.pictures.specs.Picture.{padded_pixel}
use Rattle.pictures.proofs.padding.pad_row.Given as goal

abbrev pub invariant-loop-column : goal.invariant-loop-column
invariant-loop-column l = (k : ℕ) → k < l.column → get_or l.row k 0 ≡ padded_pixel l.pixels k

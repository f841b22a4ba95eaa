use Rattle.std.proofs.Common.{◌≡◌, ℕ, ◌<◌, get_or}
use Rattle.pictures.specs.Picture.{mark_pixel}
use Rattle.pictures.proofs.strip.mark_row.Given as goal

abbrev pub invariant-loop-column : goal.invariant-loop-column
invariant-loop-column l = (k : ℕ) → k < l.column → get_or l.row k 0 ≡ mark_pixel l.mark k

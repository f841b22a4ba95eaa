use Rattle.std.proofs.Common.{◌≡◌, ℕ, ◌*◌, ◌≤◌, get_or}
use Rattle.frame.proofs.Putting.{PutUpto}
use Rattle.frame.proofs.drawing.put_pixels.Given as goal

abbrev pub invariant-loop-row : goal.invariant-loop-row
invariant-loop-row l =
    PutUpto l.width l.column l.pixels l.initial.band l.row l.band
    × ((k : ℕ) → 4 * l.width ≤ k → get_or l.band k 0 ≡ get_or l.initial.band k 0)

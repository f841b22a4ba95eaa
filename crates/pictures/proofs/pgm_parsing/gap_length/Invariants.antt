use Rattle.std.proofs.Common.{◌≡◌, ◌+◌, false, drop}
use Rattle.pictures.specs.Pgm.{gap}
use Rattle.pictures.proofs.pgm_parsing.gap_length.Given as goal

abbrev pub invariant-loop-length : goal.invariant-loop-length
invariant-loop-length l = l.length + gap l.comment (drop l.length l.bytes) ≡ gap false l.bytes

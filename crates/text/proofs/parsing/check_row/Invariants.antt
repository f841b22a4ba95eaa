use Rattle.std.proofs.Common.{◌≡◌, ◌-◌}
use Rattle.text.specs.Line.{left}
use Rattle.text.specs.Text.{outcome, pixels_of}
use Rattle.text.proofs.parsing.check_row.Given as goal

abbrev pub invariant-loop : goal.invariant-loop
invariant-loop l = outcome (pixels_of l.count (left l.initial.words)) ≡ outcome (pixels_of (l.count - l.counter) (left l.words))

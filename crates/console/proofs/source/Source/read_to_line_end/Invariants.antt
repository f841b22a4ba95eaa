use Rattle.std.proofs.Common.{◌-◌, ◌^◌, ◌≤◌, length, vec_items}
use Rattle.console.proofs.LineEnds.{NoneBefore}
use Rattle.console.specs.Source.{Grown}
use Rattle.console.proofs.source.Source.read_to_line_end.Given as goal

-- there is no newline so far
abbrev pub invariant-loop-self : goal.invariant-loop-self
invariant-loop-self l = Grown l.initial.self l.self × ((l.end ≤ length (vec_items l.self.held)) × NoneBefore (vec_items l.self.held) l.end)

-- each turn reads something
abbrev pub decreases-loop-self : goal.decreases-loop-self
decreases-loop-self l = 2 ^ 64 - length (vec_items l.self.held)

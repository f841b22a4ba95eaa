use Rattle.std.proofs.Common.{◌-◌, length, vec_items}
use Rattle.console.specs.Source.{Grown}
use Rattle.console.proofs.source.Source.fill.Given as goal

abbrev pub invariant-loop-self : goal.invariant-loop-self
invariant-loop-self l = Grown l.initial.self l.self

-- each turn reads something
abbrev pub decreases-loop-self : goal.decreases-loop-self
decreases-loop-self l = l.count - length (vec_items l.self.held)

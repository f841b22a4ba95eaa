-- What is still to be doubled comes to the same as at the start.
use Rattle.std.proofs.Common.{◌≡◌, ℕ, ◌+◌, ◌-◌, ◌*◌, ◌^◌, ◌≤◌}
use Rattle.range_coder.specs.Coding.{extended}
use Rattle.range_coder.proofs.writing.extend.Given as goal

abbrev pub invariant-loop-range : goal.invariant-loop-range
invariant-loop-range l =
    (1 ≤ l.range)
    × ((low length : ℕ) → extended 7 (record { low = low * 2 ^ l.doublings; range = l.range; length = length + l.doublings })
    ≡ extended 7 (record { low = low; range = l.initial.range; length = length }))

abbrev pub decreases-loop-range : goal.decreases-loop-range
decreases-loop-range l = 128 - l.range

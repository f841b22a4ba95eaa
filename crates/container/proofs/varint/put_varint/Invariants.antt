-- What is written and what is left to write make the number's bytes.
use Rattle.std.proofs.Common.{◌≡◌, ◌+◌, ◌++◌, length, take}
use Rattle.container.specs.Container.{varint}
use Rattle.container.proofs.varint.put_varint.Given as goal

abbrev pub invariant-loop-rest : goal.invariant-loop-rest
invariant-loop-rest l =
    (l.end + length (varint l.rest) ≡ l.position + length (varint l.number))
    × (take l.end l.bytes ++ varint l.rest ≡ take l.position l.initial.bytes ++ varint l.number)

abbrev pub decreases-loop-rest : goal.decreases-loop-rest
decreases-loop-rest l = l.rest

-- What is left of the bytes gives what they all give.
use Rattle.std.proofs.Common.{◌≡◌, drop}
use Rattle.container.specs.Container.{varint_from, varint_of}
use Rattle.container.proofs.varint.read_varint.Given as goal

abbrev pub invariant-loop-index : goal.invariant-loop-index
invariant-loop-index l = varint_from l.place l.value l.index (drop l.index l.bytes) ≡ varint_of l.bytes

-- The bytes that were cut off were zero.
use Rattle.std.proofs.Common.{◌≡◌, ◌≤◌, length, take}
use Rattle.bits.specs.Bits.{bits_of}
use Rattle.bits.proofs.trimmed.Given as goal

abbrev pub invariant-loop-kept : goal.invariant-loop-kept
invariant-loop-kept l = record { within : length l.kept ≤ l.end; same : bits_of l.kept ≡ bits_of (take l.end l.bytes) }

abbrev pub decreases-loop-kept : goal.decreases-loop-kept
decreases-loop-kept l = length l.kept

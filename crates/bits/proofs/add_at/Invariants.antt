-- What was added so far and what is still carried make the sum, and the bytes after `last` stay.
use Rattle.std.proofs.Common.{◌≡◌, ℕ, ◌+◌, ◌-◌, ◌*◌, ◌^◌, ◌<◌, get_or}
use Rattle.bits.specs.Bits.{byte_prefix}
use Rattle.bits.proofs.add_at.Given as goal

abbrev pub invariant-loop-i : goal.invariant-loop-i
invariant-loop-i l = record {
  small : l.carry < 2 ^ 32;
  sum : byte_prefix (l.last + 1) l.bytes + l.carry * 256 ^ (l.last - l.i) ≡ byte_prefix (l.last + 1) l.initial.bytes + l.amount;
  after : (k : ℕ) → l.last < k → get_or l.bytes k 0 ≡ get_or l.initial.bytes k 0;
}

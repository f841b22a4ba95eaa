-- What is still to be doubled comes to the same as at the start.
use Rattle.std.proofs.Common.{◌≡◌, ◌-◌, ◌<◌, ◌≤◌}
use Rattle.bits.specs.Bits.{unread}
use Rattle.range_coder.specs.Coding.{renormalised}
use Rattle.range_coder.proofs.decoding.renormalise.Given as goal

abbrev pub invariant-loop-range : goal.invariant-loop-range
invariant-loop-range l = record {
  bytes : l.cursor.bytes.now ≡ l.initial.cursor.bytes.now;
  some : 1 ≤ l.range;
  high : l.range ≤ 256;
  inside : l.offset < l.range;
  same : renormalised 7 (record { range = l.range; offset = l.offset; rest = unread l.cursor })
      ≡ renormalised 7 (record { range = l.initial.range; offset = l.initial.offset; rest = unread l.initial.cursor });
}

abbrev pub decreases-loop-range : goal.decreases-loop-range
decreases-loop-range l = 128 - l.range

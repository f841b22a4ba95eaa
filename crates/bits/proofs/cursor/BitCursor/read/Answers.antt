use Rattle.std.proofs.Common.{◌≡◌, ◌+◌, get_or, add-zero, arith, rules}
use Rattle.bits.specs.Bits.{bit, position}
use Rattle.bits.proofs.Positions.{bit_past, bits_past, bit_in_byte}
use Rattle.bits.proofs.cursor.BitCursor.read.Goals as goal

pub returns-in_default-clause-value : goal.returns-in_default-clause-value
unfolding bit
returns-in_default-clause-value c = rw (bit_past c.args.self.bytes.now (position c.args.self + 0) (omega (arith, c.in_default.ensures.lookup)))

pub returns-in_default-clause-next : goal.returns-in_default-clause-next
returns-in_default-clause-next c = bits_past c.args.self.bytes.now (position c.args.self) (omega (arith, c.in_default.ensures.lookup))

pub returns-clause-value : goal.returns-clause-value
returns-clause-value c =
    let i = c.args.self in
    let b : c.in-Some.byte.now ≡ get_or c.args.self.bytes.now i.byte 0 = search rules in
    rw (add-zero, bit_in_byte c.args.self.bytes.now i.byte i.bit (omega arith), c.from-value.ensures, b)

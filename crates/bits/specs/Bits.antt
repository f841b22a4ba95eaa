-- Bytes as bits, the high bit of each byte first. A bit string has no end: past the last byte every bit is 0.
-- Assumes nothing: these are definitions.
use Rattle.std.specs.Prelude.{ℕ, zero, suc, ◌+◌, ◌-◌, ◌*◌, ◌/◌, ◌%◌, ◌^◌, Bool, true, false, List, ◌==◌, slice_index, slice_index_or}
use Rattle.bits.specs.declared.cursor.BitCursor.{BitCursor}

-- the bit at each position, counted from 0
abbrev pub Bits : Type 0
Bits = ℕ → Bool

unfoldable pub bit : Bool → ℕ
bit true = 1
bit false = 0

-- the bits of bytes
unfoldable pub bits_of : List ℕ → Bits
bits_of bytes n = slice_index bytes (n / 8) / 2 ^ (7 - n % 8) % 2 == 1

-- the bits of a finite list of them, and 0 after
unfoldable pub bits_from : List Bool → Bits
bits_from bs n = slice_index_or bs n false

-- what is left after the first n bits
abbrev pub skip : ℕ → Bits → Bits
skip n bs k = bs (n + k)

unfoldable pub zeros : Bits
zeros n = false

-- the number made by the first n bits: one bit more doubles it and adds the bit
unfoldable pub prefix_value : ℕ → Bits → ℕ
prefix_value zero bs = 0
prefix_value (suc n) bs = 2 * prefix_value n bs + bit (bs n)

-- the number made by the first n bytes
unfoldable pub byte_prefix : ℕ → List ℕ → ℕ
byte_prefix zero bytes = 0
byte_prefix (suc n) bytes = 256 * byte_prefix n bytes + slice_index bytes n

-- the position of a cursor's next bit, and the bits that it is still to read
abbrev pub position : BitCursor → ℕ
position c = 8 * c.byte + c.bit

abbrev pub unread : BitCursor → Bits
unread c = skip (position c) (bits_of c.bytes.now)

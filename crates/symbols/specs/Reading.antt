-- Numbers and levels out of decisions. Assumes nothing: these are definitions.
use Rattle.std.specs.Prelude.{ℕ, zero, suc, ◌+◌, ◌-◌, ◌*◌, ◌^◌, cond, List, [], ◌∷◌, ℤ, pos, neg_ℤ, ◌==◌}
use Rattle.bits.specs.Bits.{bit}
use Rattle.range_coder.specs.Decisions.{ReaderState, Read, read_adaptive, read_bypass}
use Rattle.symbols.specs.Class.{first_context}
use Rattle.symbols.specs.declared.class.NumberClass.TheVariants.{FirstLevel, LaterLevel}

-- how many decisions are true before one is false, at most so many: the first in context c, each later one in the next
unfoldable pub read_prefix : (most c : ℕ) → ReaderState → Read ℕ
read_prefix zero c r = record { value = 0; next = r }
read_prefix (suc n) c r =
    cond (read_adaptive c r).value
    (record { value = suc (read_prefix n (suc c) (read_adaptive c r).next).value; next = (read_prefix n (suc c) (read_adaptive c r).next).next })
    (record { value = 0; next = (read_adaptive c r).next })

-- k equiprobable bits, the high one first, after those of v
unfoldable pub read_bits : (k v : ℕ) → ReaderState → Read ℕ
read_bits zero v r = record { value = v; next = r }
read_bits (suc k) v r = read_bits k (2 * v + bit (read_bypass r).value) (read_bypass r).next

-- a number: a unary prefix k in contexts from c on, then k bits; 2^k - 1 and these bits
unfoldable pub read_number : (c : ℕ) → ReaderState → Read ℕ
read_number c r = record {
  value = 2 ^ (read_prefix 15 c r).value - 1 + (read_bits (read_prefix 15 c r).value 0 (read_prefix 15 c r).next).value;
  next = (read_bits (read_prefix 15 c r).value 0 (read_prefix 15 c r).next).next;
}

-- a signed number: a number and, unless it is 0, a bit that is true where it is negative
unfoldable pub read_signed : (c : ℕ) → ReaderState → Read ℤ
read_signed c r =
    cond ((read_number c r).value == 0)
    (record { value = pos 0; next = (read_number c r).next })
    (record {
      value = cond (read_bypass (read_number c r).next).value (neg_ℤ (pos (read_number c r).value)) (pos (read_number c r).value);
      next = (read_bypass (read_number c r).next).next;
    })

-- the first level has contexts of its own
unfoldable pub level_context : ℕ → ℕ
level_context zero = first_context FirstLevel
level_context (suc k) = first_context LaterLevel

-- n levels, the first of them level k
unfoldable pub read_levels : (n k : ℕ) → ReaderState → Read (List ℤ)
read_levels zero k r = record { value = []; next = r }
read_levels (suc n) k r = record {
  value = (read_signed (level_context k) r).value ∷ (read_levels n (suc k) (read_signed (level_context k) r).next).value;
  next = (read_levels n (suc k) (read_signed (level_context k) r).next).next;
}

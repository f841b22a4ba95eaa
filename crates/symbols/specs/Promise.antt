-- What symbols promise. Each is a statement, and a function's contract asks for its proof.
use Rattle.std.specs.Prelude.{◌≡◌, ℕ, ◌^◌, ◌<◌, ◌≤◌, List, length, ℤ, pos, slice_index_or, unsigned_abs}
use Rattle.range_coder.specs.Decisions.{ReaderState, Gives, after}
use Rattle.symbols.specs.Reading.{read_bits, read_signed, read_levels}
use Rattle.symbols.specs.Saying.{bits_decisions, signed_decisions, levels_decisions}

-- the largest number that a prefix of fifteen can say
abbrev pub largest : ℕ
largest = 65534

-- every one of the levels can be said
abbrev pub Sayable : List ℤ → Type 0
Sayable zs = (i : ℕ) → i < length zs → unsigned_abs (slice_index_or zs i (pos 0)) ≤ largest

-- A SYMBOL THAT WAS SAID IS READ BACK: a reader that gives a symbol's decisions reads that symbol, and stands after them.
pub record SymbolsReadBack : Type 0 where
  pub bits : (k v : ℕ) (r : ReaderState) → v < 2 ^ k → Gives r (bits_decisions k v) → read_bits k 0 r ≡ record { value = v; next = after r (bits_decisions k v) }
  pub signed : (c : ℕ) (z : ℤ) (r : ReaderState) → unsigned_abs z ≤ largest → Gives r (signed_decisions c z) → read_signed c r ≡ record { value = z; next = after r (signed_decisions c z) }
  pub levels : (k : ℕ) (zs : List ℤ) (r : ReaderState) → Sayable zs → Gives r (levels_decisions k zs) → read_levels (length zs) k r ≡ record { value = zs; next = after r (levels_decisions k zs) }

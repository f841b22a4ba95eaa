-- The decisions that say a number, a signed number or levels. Assumes nothing: these are definitions.
use Rattle.std.specs.Prelude.{ℕ, zero, suc, ◌-◌, ◌/◌, ◌%◌, ◌^◌, true, false, cond, List, [], ◌∷◌, ◌++◌, ℤ, pos, negsuc, ◌==◌, nat_le, unsigned_abs}
use Rattle.range_coder.specs.Decisions.{Decision, adaptive, bypass}
use Rattle.symbols.specs.Reading.{level_context}

unfoldable pub prefix_decisions : (most k c : ℕ) → List Decision
prefix_decisions zero k c = []
prefix_decisions (suc n) zero c = adaptive c false ∷ []
prefix_decisions (suc n) (suc k) c = adaptive c true ∷ prefix_decisions n k (suc c)

-- the low k bits of v, the high one first
unfoldable pub bits_decisions : (k v : ℕ) → List Decision
bits_decisions zero v = []
bits_decisions (suc k) v = bypass (v / 2 ^ k % 2 == 1) ∷ bits_decisions k v

-- the largest k, at most so large, of which 2^k is not above v + 1
unfoldable pub exponent : (most v : ℕ) → ℕ
exponent zero v = 0
exponent (suc n) v = cond (nat_le (2 ^ suc n) (suc v)) (suc n) (exponent n v)

unfoldable pub number_decisions : (c v : ℕ) → List Decision
number_decisions c v = prefix_decisions 15 (exponent 15 v) c ++ bits_decisions (exponent 15 v) (suc v - 2 ^ exponent 15 v)

unfoldable pub sign_decisions : ℤ → List Decision
sign_decisions (pos zero) = []
sign_decisions (pos (suc n)) = bypass false ∷ []
sign_decisions (negsuc n) = bypass true ∷ []

unfoldable pub signed_decisions : (c : ℕ) → ℤ → List Decision
signed_decisions c z = number_decisions c (unsigned_abs z) ++ sign_decisions z

-- levels, the first of them level k
unfoldable pub levels_decisions : (k : ℕ) → List ℤ → List Decision
levels_decisions k [] = []
levels_decisions k (z ∷ zs) = signed_decisions (level_context k) z ++ levels_decisions (suc k) zs

-- The rule of a table of signs: one test, which antt computes over the whole table, gives the sign at each entry.
use Rattle.std.proofs.Common.{◌≡◌, ℕ, zero, suc, ◌/◌, ◌%◌, ◌^◌, ◌<◌, ◌≤◌, Bool, true, false, cond, not, ◌&&◌, eqb, List, get_or, sym, refl, ⊎_elim, arith}
use Rattle.std.proofs.lemmas.Bool.{and_parts, cases_lt}
use Rattle.block.specs.Stages.{positive_at}

-- a test passes at each number below n
abbrev all_below : (ℕ → Bool) → ℕ → Bool
all_below test zero = true
all_below test (suc n) = test n && all_below test n

below : (test : ℕ → Bool) (n : ℕ) → all_below test n ≡ true → (k : ℕ) → k < n → test k ≡ true
below test zero all k h = absurd (omega arith)
below test (suc n) all k h = ⊎_elim (λ (lt : k < n). below test n (and_parts (test n) (all_below test n) all).1 k lt)
    (λ (ge : n ≤ k). let e : k ≡ n = omega arith in rw e (and_parts (test n) (all_below test n) all).0) (cases_lt k n)

abbrev same : Bool → Bool → Bool
same a b = cond a b (not b)

same_is : (a b : Bool) → same a b ≡ true → a ≡ b
same_is true true t = refl
same_is true false t = sym t
same_is false true t = t
same_is false false t = refl

-- bit p of entry f is zero where basis function f is positive at pixel p
abbrev zero_bit : List ℕ → ℕ → ℕ → Bool
zero_bit table function pixel = eqb (get_or table function 0 / 2 ^ pixel % 2) 0

abbrev pub right : List ℕ → Bool
right table = all_below (λ function. all_below (λ pixel. same (zero_bit table function pixel) (positive_at function pixel)) 16) 16

sign_is : (table : List ℕ) → right table ≡ true → (function pixel : ℕ) → function < 16 → pixel < 16 → zero_bit table function pixel ≡ positive_at function pixel
sign_is table all function pixel hf hp =
    same_is _ _ (below (λ p. same (zero_bit table function p) (positive_at function p)) 16
    (below (λ f. all_below (λ p. same (zero_bit table f p) (positive_at f p)) 16) 16 all function hf) pixel hp)

-- the same with the test in the result, so that a proof need not write the table again
pub sign_tested : (table : List ℕ) (function pixel : ℕ) → function < 16 → pixel < 16 →
    zero_bit table function pixel ≡ cond (right table) (positive_at function pixel) (zero_bit table function pixel)
sign_tested table function pixel hf hp = go (right table) refl
  where
    go : (test : Bool) → right table ≡ test → zero_bit table function pixel ≡ cond test (positive_at function pixel) (zero_bit table function pixel)
    go true e = sign_is table e function pixel hf hp
    go false e = refl

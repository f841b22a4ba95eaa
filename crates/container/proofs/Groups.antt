-- The bytes of a number, group by group.
use Rattle.std.proofs.Common.{◌≡◌, ℕ, zero, suc, ◌+◌, ◌*◌, ◌/◌, ◌%◌, ◌^◌, ◌<◌, ◌≤◌, Bool, true, false, List, [], ◌∷◌, ◌++◌, length, take, set, refl, ap, inl, inr, arith}
use native.Mathlib.Nat.{pow-succ'}
use mir.Val.{bool_byte}
use Rattle.container.specs.Container.{tag, varint, varint_within}
use Rattle.std.proofs.lemmas.Nat.{div_below}
use Rattle.std.proofs.lemmas.List.{append_assoc, take_more_set}
use Rattle.std.proofs.lemmas.Bool.{cases_lt, le-ltb, lt-ltb}

-- a number's groups are the same wherever there are enough
within_enough : (k m n : ℕ) → n ≤ k → n ≤ m → varint_within k n ≡ varint_within m n
unfolding varint_within
within_enough zero zero n h g = refl
within_enough zero (suc m) n h g = rw (lt-ltb n 128 (omega arith))
within_enough (suc k) zero n h g = rw (lt-ltb n 128 (omega arith))
within_enough (suc k) (suc m) n h g =
    elim (cases_lt n 128) [
      | inl l ↦ rw (lt-ltb n 128 l)
      | inr l ↦ rw (le-ltb n 128 l) (ap (λ bs. (128 + n % 128) ∷ bs) (within_enough k m (n / 128) (omega arith) (omega arith)))
    ]

pub varint_small : (n : ℕ) → n < 128 → varint n ≡ n ∷ []
unfolding varint_within
varint_small zero h = refl
varint_small (suc n) h = rw (lt-ltb (suc n) 128 h)

pub varint_more : (n : ℕ) → 128 ≤ n → varint n ≡ (128 + n % 128) ∷ varint (n / 128)
unfolding varint_within
varint_more zero h = absurd (let f : ⊥ = omega arith in f)
varint_more (suc n) h =
    rw (le-ltb (suc n) 128 h)
    (ap (λ bs. (128 + suc n % 128) ∷ bs) (within_enough n (suc n / 128) (suc n / 128) (omega arith) (omega arith)))

-- so many groups hold so large a number
varint_short : (k n : ℕ) → n < 128 ^ suc k → length (varint n) ≤ suc k
varint_short zero n h = rw (varint_small n h) (omega arith)
varint_short (suc k) n h =
    elim (cases_lt n 128) [
      | inl l ↦ rw (varint_small n l) (omega arith)
      | inr l ↦
          let b = rw (pow-succ' 128 (suc k)) at h in
          let q = varint_short k (n / 128) (div_below n 128 (128 ^ suc k) (omega arith) (omega arith)) in
          rw (varint_more n l) (omega arith)
    ]

pub varint_ten : (n : ℕ) → n < 2 ^ 64 → length (varint n) ≤ 10
varint_ten n h = varint_short 9 n (omega arith)

pub varint_some : (n : ℕ) → 0 < length (varint n)
varint_some n = elim (cases_lt n 128) [ inl l ↦ rw (varint_small n l) (omega arith) | inr l ↦ rw (varint_more n l) (omega arith) ]

-- a turn of the loop that writes: one more group is written, and the others are left
pub group_more : (bytes front : List ℕ) (end rest : ℕ) → 128 ≤ rest → end < length bytes → take end bytes ++ varint rest ≡ front
    → take (end + 1) (set bytes end (128 + rest % 128)) ++ varint (rest / 128) ≡ front
group_more bytes front end rest h l e =
    rw (take_more_set bytes end (128 + rest % 128) l, append_assoc) (rw (varint_more rest h) at e)

pub group_last : (bytes front : List ℕ) (end rest : ℕ) → rest < 128 → end < length bytes → take end bytes ++ varint rest ≡ front
    → take (end + 1) (set bytes end rest) ≡ front
group_last bytes front end rest h l e = rw (take_more_set bytes end rest l) (rw (varint_small rest h) at e)

-- the mark of a key frame as the code adds it
pub tag_is : (n m : ℕ) (k : Bool) → m ≡ bool_byte k → 2 * n + m ≡ tag n k
tag_is n m true e = omega arith
tag_is n m false e = omega arith

pub tag_below : (n : ℕ) (k : Bool) → n ≤ 2 ^ 62 → tag n k < 2 ^ 64
tag_below n true h = omega arith
tag_below n false h = omega arith

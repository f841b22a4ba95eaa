-- A size is a number of at most 65535 that is not 0.
use Rattle.std.proofs.Common.{◌≡◌, ℕ, ◌+◌, ◌-◌, ◌*◌, ◌^◌, ◌≤◌, Bool, true, false, cond, ◌&&◌, ltb, leb, List, [], ◌∷◌, length, Some, None, Option, refl, inl, inr, arith}
use Rattle.pictures.specs.Bytes.{size_of, value_after}
use Rattle.std.proofs.lemmas.Bool.{and_parts, cases_lt, le-leb, le-ltb, leb-true, lt-leb, lt-ltb}
use Rattle.std.specs.Str.{all_ascii_digits}
use Rattle.text.specs.Line.{number_of}
use Rattle.text.specs.Line.{value_after as number_after}

same_value : (n : ℕ) (bs : List ℕ) → number_after n bs ≡ value_after n bs
same_value n [] = refl
same_value n (c ∷ cs) = same_value (n * 10 + (c - 48)) cs

-- a number, if it is not 0
abbrev pub above_zero : Option ℕ → Option ℕ
above_zero None = None
above_zero (Some n) = cond (ltb 0 n) (Some n) None

by_tests : (digits : Bool) (v : ℕ) → cond (digits && (ltb 0 v && ltb v (2 ^ 16))) (Some v) None ≡ above_zero (cond (digits && leb v 65535) (Some v) None)
by_tests false v = refl
by_tests true v = elim (cases_lt v (2 ^ 16)) [
  | inl small ↦ elim (cases_lt 0 v) [
    | inl some ↦ rw (lt-ltb v (2 ^ 16) small, le-leb v 65535 (omega arith), lt-ltb 0 v some)
    | inr none ↦ rw (lt-ltb v (2 ^ 16) small, le-leb v 65535 (omega arith), le-ltb 0 v none)
  ]
  | inr large ↦ rw (le-ltb v (2 ^ 16) large, lt-leb v 65535 (omega arith), lt-ltb 0 v (omega arith))
]

pub size_is : (bs : List ℕ) → size_of bs ≡ above_zero (number_of 65535 bs)
unfolding size_of number_of
size_is [] = refl
size_is (c ∷ cs) = rw (lt-ltb 0 (length (c ∷ cs)) (omega arith), same_value 0 (c ∷ cs)) (by_tests (all_ascii_digits (c ∷ cs)) (value_after 0 (c ∷ cs)))

-- a number within a limit is
by_test : (limit n v : ℕ) (b : Bool) → (b ≡ true → v ≤ limit) → Some n ≡ cond b (Some v) None → n ≤ limit
by_test limit n v true h e = let same : n ≡ v = cc in omega (arith, h refl)
by_test limit n v false h e = absurd (let z : ◌≡◌ {A = ℕ} 0 1 = cc in (let f : ⊥ = omega arith in f))

pub number_within : (limit n : ℕ) (bs : List ℕ) → Some n ≡ number_of limit bs → n ≤ limit
unfolding number_of
number_within limit n bs e =
    by_test limit n (number_after 0 bs) _
    (λ t. leb-true (number_after 0 bs) limit (and_parts (all_ascii_digits bs) _ (and_parts (ltb 0 (length bs)) _ t).1).1) e

-- A number is read digit by digit, and never falls on the way: where it has passed 2^64 it stays above every limit.
use Rattle.std.proofs.Common.{◌≡◌, ℕ, ◌+◌, ◌-◌, ◌*◌, ◌^◌, ◌<◌, ◌≤◌, Bool, true, false, cond, ◌&&◌, ltb, leb, List, [], ◌∷◌, length, get_or, drop, Some, None, Option, sym, refl, ap, ◌∙◌, arith, rules}
use Rattle.std.proofs.lemmas.List.{drop_all, drop_more}
use Rattle.std.proofs.lemmas.Bool.{and_left, and_right, cond-false, cond-true, le-leb, lt-leb, lt-ltb, ltb-false}
use Rattle.std.proofs.lemmas.Str.Parse.{IsNumeralModel, numerals_by_fold}
use Rattle.std.specs.Char.{is_ascii_digit}
use Rattle.std.specs.Option.{option_and_then}
use Rattle.std.specs.Str.{all_ascii_digits}
use Rattle.text.specs.Line.{number_of, value_after}

-- Digits mean the number that the library's laws of numerals speak of.
pub own : IsNumeralModel (λ ds. all_ascii_digits ds ≡ true) (value_after 0)
own = numerals_by_fold _ (search rules) value_after (search rules)

-- what is left of a word, after digits that write v
abbrev pub finish : (limit v : ℕ) → List ℕ → Option ℕ
finish limit v cs = cond (all_ascii_digits cs && leb (value_after v cs) limit) (Some (value_after v cs)) None

abbrev pub pushed : (v c : ℕ) → Option ℕ
pushed v c = cond (is_ascii_digit c && ltb (v * 10 + (c - 48)) (2 ^ 64)) (Some (v * 10 + (c - 48))) None

value_rises : (v : ℕ) (cs : List ℕ) → v ≤ value_after v cs
value_rises v [] = omega arith
value_rises v (c ∷ cs) = omega (arith, value_rises (v * 10 + (c - 48)) cs)

pub number_none : (limit : ℕ) (word : List ℕ) → length word ≡ 0 → number_of limit word ≡ None
unfolding number_of
number_none limit [] e = refl
number_none limit (c ∷ cs) e = absurd (omega arith)

pub number_some : (limit : ℕ) (word : List ℕ) → 0 < length word → number_of limit word ≡ finish limit 0 word
unfolding number_of
number_some limit word h = rw (lt-ltb 0 (length word) h)

by_tests : (limit v c : ℕ) (cs : List ℕ) (digit small : Bool) → limit < 2 ^ 64 → is_ascii_digit c ≡ digit → ltb (v * 10 + (c - 48)) (2 ^ 64) ≡ small →
    finish limit v (c ∷ cs) ≡ option_and_then (λ n. finish limit n cs) (cond (digit && small) (Some (v * 10 + (c - 48))) None)
by_tests limit v c cs false small l d s = cond-false _ _ _ (and_left _ _ (and_left _ _ d))
by_tests limit v c cs true true l d s = ap (λ b. cond (b && all_ascii_digits cs && leb (value_after (v * 10 + (c - 48)) cs) limit) (Some (value_after (v * 10 + (c - 48)) cs)) None) d
by_tests limit v c cs true false l d s = cond-false _ _ _ (and_right _ _ (lt-leb (value_after (v * 10 + (c - 48)) cs) limit (omega (arith, value_rises (v * 10 + (c - 48)) cs, ltb-false _ _ s))))

-- A BYTE MORE IS A DIGIT MORE: where it is none, or the number passes 2^64, the word is no number within the limit.
pub finish_more : (limit v c : ℕ) (cs : List ℕ) → limit < 2 ^ 64 → finish limit v (c ∷ cs) ≡ option_and_then (λ n. finish limit n cs) (pushed v c)
finish_more limit v c cs l = by_tests limit v c cs _ _ l refl refl

-- the same at an index of the word, after what a loop's turn pushed
module _ (limit v i : ℕ) (word : List ℕ) (l : limit < 2 ^ 64) (inside : i < length word) where
  turn : finish limit v (drop i word) ≡ option_and_then (λ n. finish limit n (drop (i + 1) word)) (pushed v (get_or word i 0))
  turn = ap (finish limit v) (drop_more word i 0 inside) ∙ finish_more limit v (get_or word i 0) (drop (i + 1) word) l

  pub turn_some : (n : ℕ) → Some n ≡ pushed v (get_or word i 0) → finish limit v (drop i word) ≡ finish limit n (drop (i + 1) word)
  turn_some n e = turn ∙ ap (option_and_then (λ m. finish limit m (drop (i + 1) word))) (sym e)

  pub turn_none : None ≡ pushed v (get_or word i 0) → finish limit v (drop i word) ≡ None
  turn_none e = turn ∙ ap (option_and_then (λ m. finish limit m (drop (i + 1) word))) (sym e)

module _ (limit v i : ℕ) (word : List ℕ) (l : length word ≤ i) where
  pub end_within : v ≤ limit → finish limit v (drop i word) ≡ Some v
  end_within h = ap (finish limit v) (drop_all i word l) ∙ cond-true _ _ _ (le-leb v limit h)

  pub end_above : limit < v → finish limit v (drop i word) ≡ None
  end_above h = ap (finish limit v) (drop_all i word l) ∙ cond-false _ _ _ (lt-leb v limit h)

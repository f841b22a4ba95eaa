-- The numbers of a line are gathered one by one: what was read before, and then what the words that are left mean.
use Rattle.std.proofs.Common.{◌≡◌, ℕ, suc, ◌+◌, ◌-◌, ◌<◌, ◌≤◌, true, false, List, [], ◌∷◌, ◌++◌, length, take, set, is_ok, Ok, Err, Result, sym, refl, ap, ◌∙◌, append_assoc, append-nil, arith}
use Rattle.frame.specs.declared.rejection.Rejection.{Rejection}
use Rattle.std.proofs.lemmas.List.{take_all, take_more_set}
use Rattle.std.proofs.lemmas.Bool.{false≢true, true≢false}
use Rattle.text.proofs.Steps.{number_rest}
use Rattle.text.specs.Line.{Words, end, word, at_end, no_more, next_number, answered}
use Rattle.text.specs.Text.{then, outcome, pixels_of, bytes_to_end}

-- numbers that were read before those that are still to be read
abbrev pub after : List ℕ → Result (List ℕ) Rejection → Result (List ℕ) Rejection
after xs r = then r λ ys. Ok (xs ++ ys)

abbrev pub one_more : ℕ → Result (List ℕ) Rejection → Result (List ℕ) Rejection
one_more n r = then r λ ys. Ok (n ∷ ys)

after_more : (xs : List ℕ) (n : ℕ) (r : Result (List ℕ) Rejection) → after xs (one_more n r) ≡ after (xs ++ n ∷ []) r
after_more xs n (Ok ys) = ap Ok (sym (append_assoc xs (n ∷ []) ys))
after_more xs n (Err e) = refl

outcome_more : (n : ℕ) (r : Result (List ℕ) Rejection) → outcome (one_more n r) ≡ outcome r
outcome_more n (Ok ys) = refl
outcome_more n (Err e) = refl

-- BYTES TO THE END OF THE LINE
abbrev pub count : Words → ℕ
count (end n) = 0
count (word n bytes ws) = suc (count ws)

pub bytes_done : (ws : Words) → at_end ws ≡ true → bytes_to_end ws ≡ Ok []
unfolding bytes_to_end
bytes_done (end n) e = refl
bytes_done (word n bytes ws) e = absurd (false≢true e)

pub bytes_rejected : (ws : Words) (e : Rejection) → at_end ws ≡ false → next_number 255 ws ≡ Err e → bytes_to_end ws ≡ Err e
unfolding bytes_to_end
bytes_rejected (end n) e more r = absurd (true≢false more)
bytes_rejected (word n bytes ws) e more r = ap (λ x. then x λ p. one_more p.0 (bytes_to_end ws)) r

bytes_turn : (ws vs : Words) (n : ℕ) → at_end ws ≡ false → next_number 255 ws ≡ Ok (n, vs) → bytes_to_end ws ≡ one_more n (bytes_to_end vs)
unfolding bytes_to_end
bytes_turn (end m) vs n more r = absurd (true≢false more)
bytes_turn (word m bytes ws) vs n more r =
    ap (λ x. then x λ p. one_more p.0 (bytes_to_end ws)) r ∙ ap (λ us. one_more n (bytes_to_end us)) (number_rest 255 n (word m bytes ws) vs r)

pub bytes_more : (xs : List ℕ) (ws vs : Words) (n : ℕ) → at_end ws ≡ false → next_number 255 ws ≡ Ok (n, vs) → after xs (bytes_to_end ws) ≡ after (xs ++ n ∷ []) (bytes_to_end vs)
bytes_more xs ws vs n more r = ap (after xs) (bytes_turn ws vs n more r) ∙ after_more xs n (bytes_to_end vs)

-- THE PIXELS OF A ROW, of which i are read
one_left : (count i : ℕ) → i < count → count - i ≡ suc (count - (i + 1))
one_left count i h = omega arith

pixels_turn : (count : ℕ) (ws : Words) → pixels_of (suc count) ws ≡ then (next_number 255 ws) λ p. one_more p.0 (pixels_of count p.1)
unfolding pixels_of
pixels_turn count ws = refl

pixels_step : (count : ℕ) (ws vs : Words) (n : ℕ) → next_number 255 ws ≡ Ok (n, vs) → pixels_of (suc count) ws ≡ one_more n (pixels_of count vs)
pixels_step count ws vs n r = pixels_turn count ws ∙ ap (λ x. then x λ p. one_more p.0 (pixels_of count p.1)) r

module _ (count i : ℕ) (inside : i < count) (ws : Words) where
  pub pixels_rejected : (e : Rejection) → next_number 255 ws ≡ Err e → pixels_of (count - i) ws ≡ Err e
  pixels_rejected e r =
      ap (λ n. pixels_of n ws) (one_left count i inside) ∙ pixels_turn _ ws ∙ ap (λ x. then x λ p. one_more p.0 (pixels_of (count - (i + 1)) p.1)) r

  pub pixels_more : (xs : List ℕ) (vs : Words) (n : ℕ) → next_number 255 ws ≡ Ok (n, vs) → after xs (pixels_of (count - i) ws) ≡ after (xs ++ n ∷ []) (pixels_of (count - (i + 1)) vs)
  pixels_more xs vs n r =
      ap (after xs) (ap (λ m. pixels_of m ws) (one_left count i inside) ∙ pixels_step _ ws vs n r) ∙ after_more xs n _

  pub outcome_turn : (vs : Words) (n : ℕ) → next_number 255 ws ≡ Ok (n, vs) → outcome (pixels_of (count - i) ws) ≡ outcome (pixels_of (count - (i + 1)) vs)
  outcome_turn vs n r =
      ap outcome (ap (λ m. pixels_of m ws) (one_left count i inside) ∙ pixels_step _ ws vs n r) ∙ outcome_more n _

pixels_end : (count i : ℕ) (ws : Words) → count ≤ i → pixels_of (count - i) ws ≡ then (no_more ws) λ _. Ok []
unfolding pixels_of
pixels_end count i ws h = let none : count - i ≡ 0 = omega arith in ap (λ n. pixels_of n ws) none

outcome_end : (r : Result (Unit {0}) Rejection) → outcome (then {B = List ℕ} r λ _. Ok []) ≡ r
outcome_end (Ok x) = refl
outcome_end (Err e) = refl

pub outcome_done : (count i : ℕ) (ws : Words) → count ≤ i → outcome (pixels_of (count - i) ws) ≡ no_more ws
outcome_done count i ws h = ap outcome (pixels_end count i ws h) ∙ outcome_end (no_more ws)

-- A ROW THAT IS FILLED, of a line that is known to be good
module _ (all : Result (List ℕ) Rejection) (row : List ℕ) (count i : ℕ) (ws : Words) (reads : all ≡ after (take i row) (pixels_of (count - i) ws)) where
  pub fill_more : (vs : Words) (n : ℕ) → i < count → i < length row → next_number 255 ws ≡ Ok (n, vs) → all ≡ after (take (i + 1) (set row i n)) (pixels_of (count - (i + 1)) vs)
  fill_more vs n inside long r =
      reads ∙ pixels_more count i inside ws (take i row) vs n r ∙ ap (λ xs. after xs (pixels_of (count - (i + 1)) vs)) (sym (take_more_set row i n long))

  -- no word of it is rejected
  pub fill_good : (r : Result ℕ Rejection) (vs : Words) → i < count → is_ok all ≡ true → next_number 255 ws ≡ answered r vs → is_ok r ≡ true
  fill_good (Ok n) vs inside good a = refl
  fill_good (Err e) vs inside good a = sym (ap is_ok (reads ∙ ap (after (take i row)) (pixels_rejected count i inside ws e a))) ∙ good

  filled : (r : Result (Unit {0}) Rejection) → is_ok (after row (then r λ _. Ok [])) ≡ true → after row (then r λ _. Ok []) ≡ Ok row
  filled (Ok x) g = ap Ok (append-nil row)
  filled (Err e) g = absurd (false≢true g)

  pub fill_done : count ≤ i → length row ≤ i → is_ok all ≡ true → Ok row ≡ all
  fill_done h long good =
      let is : all ≡ after row (then (no_more ws) λ _. Ok []) = reads ∙ (λ j. after (take_all i row long j) (pixels_end count i ws h j)) in
      sym (is ∙ filled (no_more ws) (sym (ap is_ok is) ∙ good))

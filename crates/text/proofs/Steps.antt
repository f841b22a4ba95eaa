-- The steps of a reader: what a word that was read says of the next number, keyword or end.
use Rattle.std.proofs.Common.{◌≡◌, ℕ, suc, ◌<◌, ◌≤◌, Bool, true, false, cond, ◌&&◌, eqb, ltb, leb, List, [], ◌∷◌, ◌++◌, length, Some, None, Ok, Err, Option, Result, refl, ap, ◌∙◌, arith}
use Rattle.frame.specs.declared.rejection.Rejection.{Rejection}
use Rattle.std.proofs.lemmas.Bool.{and_parts, cond_both, leb-true, ne_eqb}
use Rattle.std.specs.Str.{all_ascii_digits}
use Rattle.text.specs.declared.reader.LineReader.{LineReader}
use Rattle.text.specs.Line.{Words, end, word, closed, words_from, left, bytes_of, rest, number_of, value, or_rejected, next_number, at_end}

-- what is read, or the given where it is rejected
value_or : ℕ → Result (ℕ × Words) Rejection → ℕ
value_or d (Ok p) = p.0
value_or d (Err e) = d

words_or : Words → Result (ℕ × Words) Rejection → Words
words_or d (Ok p) = p.1
words_or d (Err e) = d

-- a number that is read is within its limit
by_test : (limit n v : ℕ) (ws vs : Words) (b : Bool) → (b ≡ true → v ≤ limit) → or_rejected (cond b (Some v) None) ws ≡ Ok (n, vs) → n ≤ limit
unfolding value_or
by_test limit n v ws vs true h e = let same : v ≡ n = ap (value_or 0) e in omega (arith, h refl)
by_test limit n v ws vs false h e = let none : 0 ≡ n = ap (value_or 0) e in omega arith

pub number_within : (limit n : ℕ) (ws vs : Words) → next_number limit ws ≡ Ok (n, vs) → n ≤ limit
unfolding number_of
number_within limit n ws vs e =
    let bytes = bytes_of ws in
    let small : (ltb 0 (length bytes) && (all_ascii_digits bytes && leb (value bytes) limit)) ≡ true → value bytes ≤ limit =
    λ t. leb-true (value bytes) limit (and_parts (all_ascii_digits bytes) _ (and_parts (ltb 0 (length bytes)) _ t).1).1 in
    by_test limit n (value bytes) ws vs _ small e

-- and leaves the words after it
by_option : (o : Option ℕ) (ws : Words) → rest ws ≡ words_or (rest ws) (or_rejected o ws)
unfolding words_or
by_option None ws = refl
by_option (Some n) ws = refl

pub number_rest : (limit n : ℕ) (ws vs : Words) → next_number limit ws ≡ Ok (n, vs) → rest ws ≡ vs
unfolding words_or
number_rest limit n ws vs e = by_option (number_of limit (bytes_of ws)) ws ∙ ap (words_or (rest ws)) e

-- NO WORD IS EMPTY, since a space closes only a word that has a byte.
abbrev Filled : Words → Type 0
Filled (end n) = Unit {0}
Filled (word n bytes ws) = (0 < length bytes) × Filled ws

filled_closed : (bytes : List ℕ) (n : ℕ) (ws : Words) → Filled ws → Filled (closed bytes n ws)
filled_closed [] n ws h = h
filled_closed (c ∷ cs) n ws h = (omega arith, h)

filled : (bytes : List ℕ) (n : ℕ) (cs : List ℕ) → Filled (words_from bytes n cs)
unfolding words_from
filled bytes n [] = filled_closed bytes n (end n) tt
filled bytes n (c ∷ cs) = cond_both _ _ _ Filled (λ _. filled_closed bytes n _ (filled [] (suc n) cs)) (λ _. filled (bytes ++ c ∷ []) (suc n) cs)

empty_at_end : (ws : Words) → Filled ws → eqb (length (bytes_of ws)) 0 ≡ at_end ws
empty_at_end (end n) h = refl
empty_at_end (word n [] ws) h = absurd (omega (arith, h.0))
empty_at_end (word n (c ∷ cs) ws) h = ne_eqb _ 0 (λ e. omega arith)

pub done : (reader : LineReader) (bytes : List ℕ) (same : Bool) → bytes ≡ bytes_of (left reader) → same ≡ eqb (length bytes) 0 → same ≡ at_end (left reader)
done reader bytes same e f = f ∙ ap (λ bs. eqb (length bs) 0) e ∙ empty_at_end (left reader) (filled [] _ _)

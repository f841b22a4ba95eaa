-- What is written reads back: the words of a line are those that it was written from, and the digits of a number mean that number.
use Rattle.std.proofs.Common.{◌≡◌, ℕ, ◌+◌, ◌-◌, ◌^◌, ◌<◌, ◌≤◌, Bool, true, false, not, ◌&&◌, eqb, leb, List, [], ◌∷◌, ◌++◌, map, length, Some, Ok, codes, decimal, refl, ap, ◌∙◌, arith}
use Rattle.std.proofs.lemmas.Fmt.{decimal_nonempty, digits_decimal, digits_value-decimal}
use Rattle.std.proofs.lemmas.Bool.{and_left, and_parts, eqb-false, le-leb, leb-true, lt-ltb, ne_eqb, not-true}
use Rattle.std.specs.Char.{is_ascii_digit}
use Rattle.std.specs.List.{AllByRecursion}
use Rattle.std.specs.Str.{all_ascii_digits, bytes_eq}
use Rattle.text.proofs.Cutting.{at_end, at_space, closed_word, grown}
use Rattle.text.proofs.Digits.{own}
use Rattle.frame.specs.declared.header.VideoHeader.{VideoHeader}
use Rattle.text.specs.Line.{Words, end, word, closed, words, words_from, value, number_of, next_is}
use Rattle.text.specs.Promise.{Plain}
use Rattle.text.specs.Text.{PacketFields, bytes_to_end, header_of, header_text, header_words, line_of, packet_of, packet_text, packet_words, pixels_of, row_of, row_text, spaced, worst_of, worst_text}

-- THE WORDS OF A LINE
-- the words of a line that is written from ws, at their offsets
abbrev after : ℕ → List (List ℕ) → Words
after n [] = end n
after n (w ∷ ws) = word (n + 1) w (after (n + 1 + length w) ws)

abbrev from : ℕ → List (List ℕ) → Words
from n [] = end n
from n (w ∷ ws) = word n w (after (n + length w) ws)

cut : (bytes : List ℕ) (n : ℕ) (ws : List (List ℕ)) → AllByRecursion Plain ws → words_from bytes n (spaced ws) ≡ closed bytes n (after n ws)
cut bytes n [] h = at_end bytes n
cut bytes n (w ∷ ws) h =
    at_space bytes n 32 (w ++ spaced ws) refl
    ∙ ap (closed bytes n) (grown [] (n + 1) w (spaced ws) h.0.no_space ∙ cut w (n + 1 + length w) ws h.1 ∙ closed_word w (n + 1) _ h.0.some)

pub words_line : (ws : List (List ℕ)) → AllByRecursion Plain ws → words (line_of ws) ≡ from 0 ws
words_line [] h = at_end [] 0
words_line (w ∷ ws) h = grown [] 0 w (spaced ws) h.0.no_space ∙ cut w (0 + length w) ws h.1 ∙ closed_word w 0 _ h.0.some

-- A NUMBER'S DIGITS
no_spaces : (w : List ℕ) → all_ascii_digits w ≡ true → AllByRecursion (λ c. c ≡ 32 → ⊥) w
no_spaces [] h = tt
no_spaces (c ∷ cs) h =
    let parts = and_parts (is_ascii_digit c) (all_ascii_digits cs) h in
    let low = leb-true 48 c (and_parts (leb 48 c) (leb c 57) parts.0).0 in
    (λ e. omega arith, no_spaces cs parts.1)

module _ (n : ℕ) (h : n < 2 ^ 64) where
  plain_number : Plain (decimal n)
  plain_number = record { some = decimal_nonempty n h; no_space = no_spaces (decimal n) (digits_decimal own n h) }

  number_decimal : (limit : ℕ) → n ≤ limit → number_of limit (decimal n) ≡ Some n
  unfolding number_of
  number_decimal limit l =
      let same : value (decimal n) ≡ n = digits_value-decimal own n h in
      rw (lt-ltb 0 (length (decimal n)) (decimal_nonempty n h), digits_decimal own n h, same, le-leb n limit l)

plain_numbers : (ns : List ℕ) → AllByRecursion (λ n. n < 256) ns → AllByRecursion Plain (map decimal ns)
plain_numbers [] h = tt
plain_numbers (n ∷ ns) h = (plain_number n (omega (arith, h.0)), plain_numbers ns h.1)

-- A KEYWORD, of which it is computed that it has no space
abbrev spaceless : List ℕ → Bool
spaceless [] = true
spaceless (c ∷ cs) = not (eqb c 32) && spaceless cs

no_spaces_by : (w : List ℕ) → spaceless w ≡ true → AllByRecursion (λ c. c ≡ 32 → ⊥) w
no_spaces_by [] h = tt
no_spaces_by (c ∷ cs) h =
    let parts = and_parts (not (eqb c 32)) (spaceless cs) h in
    (eqb-false c 32 (not-true (eqb c 32) parts.0), no_spaces_by cs parts.1)

plain_keyword : (c : ℕ) (cs : List ℕ) → spaceless (c ∷ cs) ≡ true → Plain (c ∷ cs)
plain_keyword c cs h = record { some = omega arith; no_space = no_spaces_by (c ∷ cs) h }

-- digits are no keyword
not_key : (w : List ℕ) → all_ascii_digits w ≡ true → bytes_eq w (codes "key") ≡ false
not_key [] h = refl
not_key (c ∷ cs) h =
    let digit = (and_parts (is_ascii_digit c) (all_ascii_digits cs) h).0 in
    let high = leb-true c 57 (and_parts (leb 48 c) (leb c 57) digit).1 in
    and_left (eqb c 107) _ (ne_eqb c 107 (λ e. omega arith))

-- THE FORMS
pub header_back : (h : VideoHeader) → h.across < 2 ^ 64 → h.down < 2 ^ 64 → h.step < 2 ^ 64 → header_of (header_text h) ≡ Ok h
header_back h a d s =
    let plain : AllByRecursion Plain (header_words h) =
    (plain_keyword _ _ refl, (plain_number _ a, (plain_number _ d, (plain_keyword _ _ refl, (plain_number _ s, tt))))) in
    rw (words_line (header_words h) plain, number_decimal h.across a (2 ^ 64 - 1) (omega arith), number_decimal h.down d (2 ^ 64 - 1) (omega arith), number_decimal h.step s (2 ^ 64 - 1) (omega arith))

pub worst_back : (distance : ℕ) → distance < 256 → worst_of (worst_text distance) ≡ Ok distance
worst_back n h =
    let small : n < 2 ^ 64 = omega arith in
    let plain : AllByRecursion Plain (codes "worst" ∷ (decimal n ∷ [])) = (plain_keyword _ _ refl, (plain_number n small, tt)) in
    rw (words_line _ plain, number_decimal n small 255 (omega arith))

pixels_after : (n : ℕ) (ps : List ℕ) → AllByRecursion (λ p. p < 256) ps → pixels_of (length ps) (after n (map decimal ps)) ≡ Ok ps
unfolding pixels_of
pixels_after n [] h = refl
pixels_after n (p ∷ ps) h = rw (number_decimal p (omega (arith, h.0)) 255 (omega (arith, h.0)), pixels_after (n + 1 + length (decimal p)) ps h.1)

pixels_from : (n : ℕ) (ps : List ℕ) → AllByRecursion (λ p. p < 256) ps → pixels_of (length ps) (from n (map decimal ps)) ≡ Ok ps
unfolding pixels_of
pixels_from n [] h = refl
pixels_from n (p ∷ ps) h = rw (number_decimal p (omega (arith, h.0)) 255 (omega (arith, h.0)), pixels_after (n + length (decimal p)) ps h.1)

pub row_back : (ps : List ℕ) → AllByRecursion (λ p. p < 256) ps → row_of (length ps) (row_text ps) ≡ Ok ps
row_back ps h = ap (pixels_of (length ps)) (words_line (map decimal ps) (plain_numbers ps h)) ∙ pixels_from 0 ps h

bytes_after : (n : ℕ) (bs : List ℕ) → AllByRecursion (λ b. b < 256) bs → bytes_to_end (after n (map decimal bs)) ≡ Ok bs
unfolding bytes_to_end
bytes_after n [] h = refl
bytes_after n (b ∷ bs) h = rw (number_decimal b (omega (arith, h.0)) 255 (omega (arith, h.0)), bytes_after (n + 1 + length (decimal b)) bs h.1)

no_key_after : (n : ℕ) (bs : List ℕ) → AllByRecursion (λ b. b < 256) bs → next_is (codes "key") (after n (map decimal bs)) ≡ false
no_key_after n [] h = refl
no_key_after n (b ∷ bs) h = not_key (decimal b) (digits_decimal own b (omega (arith, h.0)))

plain_packet : (number : ℕ) (key : Bool) (bs : List ℕ) → number ≤ 2 ^ 62 → AllByRecursion (λ b. b < 256) bs → AllByRecursion Plain (packet_words (record { number = number; key = key; bytes = bs }))
plain_packet n true bs l h = (plain_number n (omega arith), (plain_keyword _ _ refl, plain_numbers bs h))
plain_packet n false bs l h = (plain_number n (omega arith), plain_numbers bs h)

by_key : (number : ℕ) (key : Bool) (bs : List ℕ) → number ≤ 2 ^ 62 → AllByRecursion (λ b. b < 256) bs →
    packet_of (packet_text (record { number = number; key = key; bytes = bs })) ≡ Ok (record { number = number; key = key; bytes = bs })
by_key n true bs l h =
    rw (words_line _ (plain_packet n true bs l h), number_decimal n (omega arith) (2 ^ 62) l, bytes_after _ bs h)
by_key n false bs l h =
    rw (words_line _ (plain_packet n false bs l h), number_decimal n (omega arith) (2 ^ 62) l, no_key_after _ bs h, bytes_after _ bs h)

pub packet_back : (p : PacketFields) → p.number ≤ 2 ^ 62 → AllByRecursion (λ b. b < 256) p.bytes → packet_of (packet_text p) ≡ Ok p
packet_back p l h = by_key p.number p.key p.bytes l h

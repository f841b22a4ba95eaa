-- What is written is read back: a line that is written from words is cut into those words, and a number is its digits.
use Rattle.std.proofs.Common.{◌≡◌, ℕ, ◌^◌, ◌<◌, Bool, true, not, ◌&&◌, eqb, leb, List, [], ◌∷◌, ◌++◌, Ok, codes, decimal, sym, refl, ap, ◌∙◌, ⊎_elim, arith}
use Rattle.pictures.proofs.Numbers.{digits_of, size_decimal}
use Rattle.pictures.specs.Bytes.{cut, put_before}
use Rattle.pictures.specs.Y4m.{header_of, header_text, line_of, spaced, with_tags, written_words}
use Rattle.pictures.specs.declared.forms.FrameRate.{FrameRate}
use Rattle.pictures.specs.declared.forms.Size.{Size}
use Rattle.std.proofs.ByRecursion.{All-append}
use Rattle.std.proofs.lemmas.Bool.{and_parts, cases_eq, eq-eqb, eqb-false, leb-true, ne_eqb, not-true}
use Rattle.std.specs.Char.{is_ascii_digit}
use Rattle.std.specs.List.{AllByRecursion}
use Rattle.std.specs.Str.{all_ascii_digits}

-- A LINE IS CUT AT EVERY SPACE
cut_space : (c : ℕ) (cs : List ℕ) → c ≡ 32 → cut (c ∷ cs) ≡ [] ∷ cut cs
unfolding cut
cut_space c cs e = rw (eq-eqb c 32 e)

cut_byte : (c : ℕ) (cs : List ℕ) → (c ≡ 32 → ⊥) → cut (c ∷ cs) ≡ put_before c (cut cs)
unfolding cut
cut_byte c cs d = rw (ne_eqb c 32 d)

-- there is a word
abbrev SomeWord : List (List ℕ) → Type 0
SomeWord [] = ⊥
SomeWord (w ∷ ws) = Unit {0}

some_before : (c : ℕ) (ws : List (List ℕ)) → SomeWord ws → SomeWord (put_before c ws)
some_before c [] h = h
some_before c (w ∷ ws) h = tt

some_cut : (cs : List ℕ) → SomeWord (cut cs)
unfolding cut
some_cut [] = tt
some_cut (c ∷ cs) = ⊎_elim (λ e. rw (cut_space c cs e) tt) (λ d. rw (cut_byte c cs d) (some_before c (cut cs) (some_cut cs))) (cases_eq c 32)

line_space : (ws : List (List ℕ)) → SomeWord ws → line_of ([] ∷ ws) ≡ 32 ∷ line_of ws
line_space [] h = absurd h
line_space (w ∷ ws) h = refl

line_byte : (c : ℕ) (ws : List (List ℕ)) → SomeWord ws → line_of (put_before c ws) ≡ c ∷ line_of ws
line_byte c [] h = absurd h
line_byte c (w ∷ ws) h = refl

pub line_same : (line : List ℕ) → line_of (cut line) ≡ line
unfolding cut
line_same [] = refl
line_same (c ∷ cs) =
    ⊎_elim
    (λ e. ap line_of (cut_space c cs e) ∙ line_space (cut cs) (some_cut cs) ∙ (λ i. sym e i ∷ line_same cs i))
    (λ d. ap line_of (cut_byte c cs d) ∙ line_byte c (cut cs) (some_cut cs) ∙ ap (λ l. c ∷ l) (line_same cs))
    (cases_eq c 32)

abbrev Spaceless : List ℕ → Type 0
Spaceless w = AllByRecursion (λ c. c ≡ 32 → ⊥) w

spaceless_before : (c : ℕ) (ws : List (List ℕ)) → (c ≡ 32 → ⊥) → AllByRecursion Spaceless ws → AllByRecursion Spaceless (put_before c ws)
spaceless_before c [] d h = tt
spaceless_before c (w ∷ ws) d h = ((d, h.0), h.1)

pub line_spaceless : (line : List ℕ) → AllByRecursion Spaceless (cut line)
unfolding cut
line_spaceless [] = (tt, tt)
line_spaceless (c ∷ cs) =
    ⊎_elim
    (λ e. rw (cut_space c cs e) (tt, line_spaceless cs))
    (λ d. rw (cut_byte c cs d) (spaceless_before c (cut cs) d (line_spaceless cs)))
    (cases_eq c 32)

-- WORDS WITHOUT A SPACE ARE CUT AGAIN as they were
cut_word : (w : List ℕ) (ws : List (List ℕ)) → Spaceless w → AllByRecursion Spaceless ws → cut (w ++ spaced ws) ≡ w ∷ ws
unfolding cut
cut_word [] [] h s = refl
cut_word [] (v ∷ vs) h s = ap (λ l. [] ∷ l) (cut_word v vs s.0 s.1)
cut_word (c ∷ cs) ws h s = cut_byte c (cs ++ spaced ws) h.0 ∙ ap (put_before c) (cut_word cs ws h.1 s)

-- A NUMBER HAS NO SPACE, since it has only digits
spaceless_digits : (w : List ℕ) → all_ascii_digits w ≡ true → Spaceless w
spaceless_digits [] h = tt
spaceless_digits (c ∷ cs) h =
    let parts = and_parts (is_ascii_digit c) (all_ascii_digits cs) h in
    let low = leb-true 48 c (and_parts (leb 48 c) (leb c 57) parts.0).0 in
    (λ e. omega arith, spaceless_digits cs parts.1)

spaceless_number : (n : ℕ) → n < 2 ^ 64 → Spaceless (decimal n)
spaceless_number n h = spaceless_digits (decimal n) (digits_of n h)

-- A WORD THAT IS WRITTEN AS IT STANDS, of which it is computed that it has no space
abbrev spaceless : List ℕ → Bool
spaceless [] = true
spaceless (c ∷ cs) = not (eqb c 32) && spaceless cs

spaceless_by : (w : List ℕ) → spaceless w ≡ true → Spaceless w
spaceless_by [] h = tt
spaceless_by (c ∷ cs) h =
    let parts = and_parts (not (eqb c 32)) (spaceless cs) h in
    (eqb-false c 32 (not-true (eqb c 32) parts.0), spaceless_by cs parts.1)

-- THE HEADER
module _ (size : Size) (rate : FrameRate) (w : size.width < 2 ^ 16) (h : size.height < 2 ^ 16) (f : rate.frames < 2 ^ 32) (s : rate.seconds < 2 ^ 32) where
  spaceless_rate : Spaceless (decimal rate.frames ++ (codes ":" ++ decimal rate.seconds))
  spaceless_rate = All-append _ _ _ (spaceless_number _ (omega arith)) (λ e. omega arith, spaceless_number _ (omega arith))

  written_spaceless : AllByRecursion Spaceless (written_words size rate)
  written_spaceless = (
    spaceless_by (codes "YUV4MPEG2") refl,
    (
      (λ e. omega arith, spaceless_number size.width (omega arith)),
      (
        (λ e. omega arith, spaceless_number size.height (omega arith)),
        (
          (λ e. omega arith, spaceless_rate),
          (spaceless_by (codes "Ip") refl, (spaceless_by (codes "A1:1") refl, (spaceless_by (codes "Cmono") refl, tt))),
        ),
      ),
    ),
  )

  header_cut : cut (header_text size rate) ≡ written_words size rate
  header_cut = cut_word _ _ written_spaceless.0 written_spaceless.1

  pub header_back : 0 < size.width → 0 < size.height → header_of (header_text size rate) ≡ Ok (record { size = size; chroma = 0 })
  unfolding with_tags
  header_back p q = rw (header_cut, size_decimal size.width p w, size_decimal size.height q h)

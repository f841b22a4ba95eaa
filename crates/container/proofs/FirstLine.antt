-- The first line of a file.
use Rattle.std.proofs.Common.{◌≡◌, ℕ, ◌+◌, ◌%◌, ◌^◌, ◌<◌, List, [], ◌∷◌, ◌++◌, length, take, Ok, IsUtf8, decimal, Result, refl, ap, ◌∙◌, arith, rules}
use Rattle.container.specs.HeaderLine.{HeaderRead, first_line, header_line, line_length}
use Rattle.frame.specs.declared.rejection.Rejection.{Rejection}
use Rattle.std.proofs.ByRecursion.{IsAscii-from_all, All-append, All-push, All-weaker}
use Rattle.std.proofs.lemmas.Fmt.{decimal_by_steps}
use Rattle.std.proofs.lemmas.List.{append_assoc, length-append, take_at}
use Rattle.std.proofs.lemmas.Bool.{eq-eqb, ne_eqb}
use Rattle.std.proofs.lemmas.Str.{IsUtf8-from_ascii}
use Rattle.std.specs.List.{AllByRecursion}
use Rattle.text.specs.Text.{header_of, header_text, header_words, line_of, spaced}
use Rattle.frame.specs.declared.header.VideoHeader.{VideoHeader}

line_ends : (b : ℕ) (bs : List ℕ) → b ≡ 10 → line_length (b ∷ bs) ≡ 0
line_ends b bs e = rw (eq-eqb b 10 e)

line_goes_on : (b : ℕ) (bs : List ℕ) → (b ≡ 10 → ⊥) → line_length (b ∷ bs) ≡ 1 + line_length bs
line_goes_on b bs e = rw (ne_eqb b 10 e)

-- A HEADER LINE IS READ BACK, since no byte of it is a newline
abbrev InLine : ℕ → Type 0
InLine c = (10 < c) × (c < 128)

line_of_text : (text tail : List ℕ) → AllByRecursion InLine text → line_length (text ++ 10 ∷ tail) ≡ length text
line_of_text [] tail a = line_ends 10 tail refl
line_of_text (c ∷ cs) tail a =
    omega (arith, line_goes_on c (cs ++ 10 ∷ tail) (λ e. (let f : ⊥ = omega (arith, a.0) in f)), line_of_text cs tail a.1)

decimal_in_line : (n : ℕ) → n < 2 ^ 64 → AllByRecursion InLine (decimal n)
decimal_in_line n h =
    decimal_by_steps (λ _ ds. AllByRecursion InLine ds) (λ m l. ((omega arith, omega arith), tt))
    (λ m ds l a. All-push InLine ds (48 + m % 10) a (omega arith, omega arith)) n h

spaced_in_line : (ws : List (List ℕ)) → AllByRecursion (AllByRecursion InLine) ws → AllByRecursion InLine (spaced ws)
spaced_in_line [] a = tt
spaced_in_line (w ∷ ws) a = ((omega arith, omega arith), All-append InLine w (spaced ws) a.0 (spaced_in_line ws a.1))

words_in_line : (ws : List (List ℕ)) → AllByRecursion (AllByRecursion InLine) ws → AllByRecursion InLine (line_of ws)
words_in_line [] a = tt
words_in_line (w ∷ ws) a = All-append InLine w (spaced ws) a.0 (spaced_in_line ws a.1)

-- text with a newline after it is a file's first line
module _ (text tail : List ℕ) (in_line : AllByRecursion InLine text) where
  same_file : (text ++ 10 ∷ []) ++ tail ≡ text ++ 10 ∷ tail
  same_file = append_assoc text (10 ∷ []) tail

  text_length : line_length ((text ++ 10 ∷ []) ++ tail) ≡ length text
  text_length = ap line_length same_file ∙ line_of_text text tail in_line

  text_first : first_line ((text ++ 10 ∷ []) ++ tail) ≡ text
  text_first = rw text_length (ap (take (length text)) same_file ∙ take_at text (10 ∷ tail) (length text) refl)

  text_ended : line_length ((text ++ 10 ∷ []) ++ tail) < length ((text ++ 10 ∷ []) ++ tail)
  text_ended = omega (arith, text_length, ap length same_file, length-append text (10 ∷ tail))

  text_utf8 : IsUtf8 text
  text_utf8 = IsUtf8-from_ascii text (IsAscii-from_all text (All-weaker InLine (λ c. c < 128) (λ c a. a.1) text in_line))

  text_reads : {h : VideoHeader} → header_of text ≡ Ok h → (answer : Result (VideoHeader × ℕ) Rejection) → HeaderRead ((text ++ 10 ∷ []) ++ tail) answer
      → answer ≡ Ok (h, length (text ++ 10 ∷ []))
  text_reads back answer r = r.as_text text_ended (rw text_first text_utf8) ∙ rw (text_first, back, text_length, length-append text (10 ∷ []))

pub header_reads : (h : VideoHeader) → h.across < 2 ^ 64 → h.down < 2 ^ 64 → h.step < 2 ^ 64 → header_of (header_text h) ≡ Ok h
    → (tail : List ℕ) (answer : Result (VideoHeader × ℕ) Rejection) → HeaderRead (header_line h ++ tail) answer → answer ≡ Ok (h, length (header_line h))
header_reads h across down step back tail answer r =
    let in_line : AllByRecursion InLine (header_text h) = words_in_line (header_words h)
    (search rules, (decimal_in_line h.across across, (decimal_in_line h.down down, (search rules, (decimal_in_line h.step step, tt))))) in
    text_reads (header_text h) tail in_line back answer r

-- A line is its words with spaces between them: each byte is laid out again where it stood.
use Rattle.std.proofs.Common.{◌≡◌, ℕ, suc, ◌+◌, ◌-◌, ◌<◌, ◌≤◌, List, [], ◌∷◌, ◌++◌, length, replicate, ap, ◌∙◌, ⊎_elim, append_assoc, arith}
use Rattle.std.proofs.ByRecursion.{All-push}
use Rattle.std.proofs.lemmas.List.{length_push}
use Rattle.std.proofs.lemmas.Bool.{cases_eq}
use Rattle.std.specs.List.{AllByRecursion}
use Rattle.text.proofs.Cutting.{at_byte, at_end, at_space}
use Rattle.text.specs.Line.{Words, end, word, closed, position, words, words_from}
use Rattle.text.specs.Promise.{Separate, laid_out}

one_longer : (bytes : List ℕ) (n c : ℕ) → length bytes ≤ n → length (bytes ++ c ∷ []) ≤ n + 1
one_longer bytes n c h = omega (arith, length_push bytes c)

-- a word that is closed at n begins as many bytes before
closed_not_before : (bytes : List ℕ) (n : ℕ) (ws : Words) → n ≤ position ws → n - length bytes ≤ position (closed bytes n ws)
closed_not_before [] n ws h = omega arith
closed_not_before (c ∷ cs) n ws h = omega arith

not_before : (bytes : List ℕ) (n : ℕ) (cs : List ℕ) → length bytes ≤ n → n - length bytes ≤ position (words_from bytes n cs)
not_before bytes n [] h = rw (at_end bytes n) (closed_not_before bytes n (end n) (omega arith))
not_before bytes n (c ∷ cs) h =
    ⊎_elim
    (λ e. rw (at_space bytes n c cs e) (closed_not_before bytes n _ (omega (arith, not_before [] (n + 1) cs (omega arith)))))
    (λ d. rw (at_byte bytes n c cs d) (omega (arith, length_push bytes c, not_before (bytes ++ c ∷ []) (n + 1) cs (one_longer bytes n c h))))
    (cases_eq c 32)

-- one space before words that begin later
spaces_more : (n p : ℕ) → n < p → replicate {A = ℕ} (p - n) 32 ≡ 32 ∷ replicate (p - (n + 1)) 32
spaces_more n p h = let more : p - n ≡ suc (p - (n + 1)) = omega arith in ap (λ k. replicate {A = ℕ} k 32) more

space_before : (n : ℕ) (ws : Words) → n < position ws → laid_out n ws ≡ 32 ∷ laid_out (n + 1) ws
space_before n (end p) h = spaces_more n p h
space_before n (word p bytes ws) h = ap (λ l. l ++ (bytes ++ laid_out (p + length bytes) ws)) (spaces_more n p h)

laid_closed : (bytes : List ℕ) (n : ℕ) (ws : Words) (t : List ℕ) → length bytes ≤ n → laid_out n ws ≡ t → laid_out (n - length bytes) (closed bytes n ws) ≡ bytes ++ t
laid_closed [] n ws t h e = let whole : n - 0 ≡ n = omega arith in ap (λ m. laid_out m ws) whole ∙ e
laid_closed (c ∷ cs) n ws t h e =
    let start = n - suc (length cs) in
    let none : start - start ≡ 0 = omega arith in
    let back : start + suc (length cs) ≡ n = omega arith in
    ap (λ k. replicate k 32 ++ ((c ∷ cs) ++ laid_out (start + suc (length cs)) ws)) none
    ∙ ap (λ m. (c ∷ cs) ++ laid_out m ws) back
    ∙ ap (λ l. (c ∷ cs) ++ l) e

space_step : (bytes : List ℕ) (n : ℕ) (cs : List ℕ) (ws : Words) → length bytes ≤ n → n < position ws → laid_out (n + 1 - 0) ws ≡ cs →
    laid_out (n - length bytes) (closed bytes n ws) ≡ bytes ++ 32 ∷ cs
space_step bytes n cs ws h p e =
    let whole : n + 1 ≡ n + 1 - 0 = omega arith in
    laid_closed bytes n ws (32 ∷ cs) h (space_before n ws p ∙ ap (λ l. 32 ∷ l) (ap (λ m. laid_out m ws) whole ∙ e))

byte_step : (bytes : List ℕ) (n c : ℕ) (cs : List ℕ) (ws : Words) → laid_out (n + 1 - length (bytes ++ c ∷ [])) ws ≡ (bytes ++ c ∷ []) ++ cs →
    laid_out (n - length bytes) ws ≡ bytes ++ c ∷ cs
byte_step bytes n c cs ws e =
    let longer : n - length bytes ≡ n + 1 - length (bytes ++ c ∷ []) = omega (arith, length_push bytes c) in
    ap (λ m. laid_out m ws) longer ∙ e ∙ append_assoc bytes (c ∷ []) cs

after_space : (n : ℕ) (cs : List ℕ) → n < position (words_from [] (n + 1) cs)
after_space n cs = omega (arith, not_before [] (n + 1) cs (omega arith))

laid : (bytes : List ℕ) (n : ℕ) (cs : List ℕ) → length bytes ≤ n → laid_out (n - length bytes) (words_from bytes n cs) ≡ bytes ++ cs
laid bytes n [] h =
    let none : n - n ≡ 0 = omega arith in
    rw (at_end bytes n) (laid_closed bytes n (end n) [] h (ap (λ k. replicate {A = ℕ} k 32) none))
laid bytes n (c ∷ cs) h =
    ⊎_elim
    (λ e. rw (at_space bytes n c cs e, e) (space_step bytes n cs _ h (after_space n cs) (laid [] (n + 1) cs (omega arith))))
    (λ d. rw (at_byte bytes n c cs d) (byte_step bytes n c cs _ (laid (bytes ++ c ∷ []) (n + 1) cs (one_longer bytes n c h))))
    (cases_eq c 32)

pub line_same : (line : List ℕ) → laid_out 0 (words line) ≡ line
line_same line = laid [] 0 line (omega arith)

-- a word is closed before the words that begin after n
separate_closed : (bytes : List ℕ) (n least : ℕ) (ws : Words) → length bytes ≤ n → AllByRecursion (λ c. c ≡ 32 → ⊥) bytes → least ≤ n - length bytes →
    ((l : ℕ) → l ≤ n + 1 → Separate l ws) → Separate least (closed bytes n ws)
separate_closed [] n least ws h p l s = s least (omega arith)
separate_closed (c ∷ cs) n least ws h p l s = (l, record { some = omega arith; no_space = p }, s _ (omega arith))

separated : (bytes : List ℕ) (n : ℕ) (cs : List ℕ) (least : ℕ) → length bytes ≤ n → AllByRecursion (λ c. c ≡ 32 → ⊥) bytes → least ≤ n - length bytes → Separate least (words_from bytes n cs)
separated bytes n [] least h p l = rw (at_end bytes n) (separate_closed bytes n least (end n) h p l (λ m k. k))
separated bytes n (c ∷ cs) least h p l =
    ⊎_elim
    (λ e. rw (at_space bytes n c cs e) (separate_closed bytes n least _ h p l (λ m k. separated [] (n + 1) cs m (omega arith) tt (omega arith))))
    (λ d. rw (at_byte bytes n c cs d) (separated (bytes ++ c ∷ []) (n + 1) cs least (one_longer bytes n c h) (All-push _ bytes c p d) (omega (arith, length_push bytes c))))
    (cases_eq c 32)

pub line_separate : (line : List ℕ) → Separate 0 (words line)
line_separate line = separated [] 0 line 0 (omega arith) tt (omega arith)

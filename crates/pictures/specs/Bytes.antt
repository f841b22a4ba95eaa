-- Bytes as text: whitespace, words between spaces, sizes in decimal digits. Assumes nothing: these are definitions.
use Rattle.std.specs.Prelude.{ℕ, ◌+◌, ◌-◌, ◌*◌, ◌^◌, Bool, false, cond, not, ◌&&◌, ◌||◌, List, [], ◌∷◌, Some, None, Option, ◌==◌, nat_lt}
use Rattle.std.specs.Str.{all_ascii_digits, bytes_eq}

-- space, TAB, LF or CR
abbrev pub blank : ℕ → Bool
blank c = c == 32 || (c == 9 || (c == 10 || c == 13))

abbrev pub not_byte : (delimiter : ℕ) → ℕ → Bool
not_byte delimiter c = not (c == delimiter)

abbrev pub not_space : ℕ → Bool
not_space c = not (c == 32)

-- A LINE IS CUT AT EVERY SPACE into one word or more, some of which may be empty.
abbrev pub put_before : ℕ → List (List ℕ) → List (List ℕ)
put_before c [] = []
put_before c (w ∷ ws) = (c ∷ w) ∷ ws

unfoldable pub cut : List ℕ → List (List ℕ)
cut [] = [] ∷ []
cut (c ∷ cs) = cond (c == 32) ([] ∷ cut cs) (put_before c (cut cs))

-- A SIZE is a number from 1 to 65535 in decimal digits.
-- the number that digits write, after those of n
abbrev pub value_after : ℕ → List ℕ → ℕ
value_after n [] = n
value_after n (c ∷ cs) = value_after (n * 10 + (c - 48)) cs

abbrev pub value : List ℕ → ℕ
value digits = value_after 0 digits

unfoldable pub size_of : List ℕ → Option ℕ
size_of bytes = cond (all_ascii_digits bytes && (nat_lt 0 (value bytes) && nat_lt (value bytes) (2 ^ 16))) (Some (value bytes)) None

-- whether bytes are one of some words
abbrev pub one_of : List (List ℕ) → List ℕ → Bool
one_of [] bytes = false
one_of (w ∷ ws) bytes = bytes_eq bytes w || one_of ws bytes

-- A line of text: words between spaces, each with its offset. Assumes nothing: these are definitions.
use Rattle.std.specs.Prelude.{ℕ, suc, ◌+◌, ◌-◌, ◌*◌, Bool, true, false, cond, ◌&&◌, List, [], ◌∷◌, ◌++◌, length, Some, None, Ok, Err, Option, Result, ◌==◌, nat_le, nat_lt}
use Rattle.frame.specs.declared.rejection.Rejection.{Rejection}
use Rattle.frame.specs.declared.rejection.Rejection.TheVariants.{BadText}
use Rattle.std.specs.Str.{all_ascii_digits, bytes_eq}
use Rattle.text.specs.declared.reader.LineReader.{LineReader}

-- a word's offset and bytes, and the words after it; the end of the line has an offset too, which is the line's length
pub data Words : Type 0 where
  end : ℕ → Words
  word : ℕ → List ℕ → Words → Words

-- a word that ends at this offset, if it has a byte, and the words after it
abbrev pub closed : (bytes : List ℕ) → (offset : ℕ) → Words → Words
closed [] offset ws = ws
closed (c ∷ cs) offset ws = word (offset - length (c ∷ cs)) (c ∷ cs) ws

-- the words of what stands from this offset on, after bytes that begin a word or none
unfoldable pub words_from : (bytes : List ℕ) → (offset : ℕ) → List ℕ → Words
words_from bytes offset [] = closed bytes offset (end offset)
words_from bytes offset (c ∷ cs) =
    cond (c == 32) (closed bytes offset (words_from [] (suc offset) cs)) (words_from (bytes ++ c ∷ []) (suc offset) cs)

abbrev pub words : List ℕ → Words
words line = words_from [] 0 line

-- the words that are still to be read
abbrev pub left : LineReader → Words
left reader = words_from [] (reader.end - length reader.rest.now) reader.rest.now

-- the next word: its bytes, of which there are none at the end, and its position
abbrev pub bytes_of : Words → List ℕ
bytes_of (end n) = []
bytes_of (word n bytes ws) = bytes

abbrev pub position : Words → ℕ
position (end n) = n
position (word n bytes ws) = n

abbrev pub rest : Words → Words
rest (end n) = end n
rest (word n bytes ws) = ws

-- the number that decimal digits write, after those of n
abbrev pub value_after : ℕ → List ℕ → ℕ
value_after n [] = n
value_after n (c ∷ cs) = value_after (n * 10 + (c - 48)) cs

abbrev pub value : List ℕ → ℕ
value digits = value_after 0 digits

-- the number that a word of one digit or more writes, if it is at most the limit
unfoldable pub number_of : (limit : ℕ) → (bytes : List ℕ) → Option ℕ
number_of limit bytes =
    cond (nat_lt 0 (length bytes) && (all_ascii_digits bytes && nat_le (value bytes) limit)) (Some (value bytes)) None

-- WHAT IS REJECTED is rejected at the next word's position, which is the line's length where a word is missing.
abbrev pub or_rejected : {T : Type 0} → Option T → Words → Result (T × Words) Rejection
or_rejected (Some x) ws = Ok (x, rest ws)
or_rejected None ws = Err (BadText (position ws))

abbrev pub next_number : (limit : ℕ) → Words → Result (ℕ × Words) Rejection
next_number limit ws = or_rejected (number_of limit (bytes_of ws)) ws

abbrev pub next_is : (keyword : List ℕ) → Words → Bool
next_is keyword ws = bytes_eq (bytes_of ws) keyword

abbrev pub next_keyword : (keyword : List ℕ) → Words → Result (Unit {0} × Words) Rejection
next_keyword keyword ws = or_rejected (cond (next_is keyword ws) (Some tt) None) ws

abbrev pub at_end : Words → Bool
at_end (end n) = true
at_end (word n bytes ws) = false

abbrev pub no_more : Words → Result (Unit {0}) Rejection
no_more ws = cond (at_end ws) (Ok tt) (Err (BadText (position ws)))

-- what a step of a reader answers, with the words that it leaves
abbrev pub answered : {T : Type 0} → Result T Rejection → Words → Result (T × Words) Rejection
answered (Ok x) ws = Ok (x, ws)
answered (Err e) ws = Err e

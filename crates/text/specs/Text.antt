-- The text forms: what a line of each form means, and the line that is written. Assumes nothing: these are definitions.
use Rattle.std.specs.Prelude.{◌≡◌, ℕ, zero, suc, ◌-◌, ◌^◌, Bool, cond, List, [], ◌∷◌, ◌++◌, map, is_ok, Some, None, Ok, Err, vec_items, codes, decimal, Option, Result}
use Rattle.frame.specs.declared.header.VideoHeader.{VideoHeader}
use Rattle.frame.specs.declared.packet.Packet as lent
use Rattle.frame.specs.declared.rejection.Rejection.{Rejection}
use Rattle.text.specs.declared.error.PacketError.{PacketError}
use Rattle.text.specs.declared.error.PacketError.TheVariants.{Rejected, OutOfMemory}
use Rattle.text.specs.declared.packet.Packet.{Packet}
use Rattle.text.specs.Line.{Words, end, word, words, rest, next_is, next_keyword, next_number, at_end, no_more}

-- one step after another, up to the first that rejects
abbrev pub then : {A B : Type 0} → Result A Rejection → (A → Result B Rejection) → Result B Rejection
then (Ok x) f = f x
then (Err e) f = Err e

-- A LINE IS WRITTEN as words with single spaces between them.
abbrev pub spaced : List (List ℕ) → List ℕ
spaced [] = []
spaced (w ∷ ws) = 32 ∷ (w ++ spaced ws)

abbrev pub line_of : List (List ℕ) → List ℕ
line_of [] = []
line_of (w ∷ ws) = w ++ spaced ws

-- THE HEADER
abbrev pub header_of : List ℕ → Result VideoHeader Rejection
header_of line =
    then (next_keyword (codes "size") (words line)) λ size.
    then (next_number (2 ^ 64 - 1) size.1) λ across.
    then (next_number (2 ^ 64 - 1) across.1) λ down.
    then (next_keyword (codes "step") down.1) λ keyword.
    then (next_number (2 ^ 64 - 1) keyword.1) λ step.
    then (no_more step.1) λ _.
    Ok (record { across = across.0; down = down.0; step = step.0 })

abbrev pub header_words : VideoHeader → List (List ℕ)
header_words h = codes "size" ∷ (decimal h.across ∷ (decimal h.down ∷ (codes "step" ∷ (decimal h.step ∷ []))))

abbrev pub header_text : VideoHeader → List ℕ
header_text h = line_of (header_words h)

-- A ROW of so many pixels
unfoldable pub pixels_of : (count : ℕ) → Words → Result (List ℕ) Rejection
pixels_of zero ws = then (no_more ws) λ _. Ok []
pixels_of (suc count) ws = then (next_number 255 ws) λ p. then (pixels_of count p.1) λ pixels. Ok (p.0 ∷ pixels)

abbrev pub row_of : (count : ℕ) → List ℕ → Result (List ℕ) Rejection
row_of count line = pixels_of count (words line)

abbrev pub row_text : List ℕ → List ℕ
row_text pixels = line_of (map decimal pixels)

-- what the row holds afterwards
abbrev pub row_after : Result (List ℕ) Rejection → (before : List ℕ) → List ℕ
row_after (Ok pixels) before = pixels
row_after (Err e) before = before

abbrev pub outcome : {A : Type 0} → Result A Rejection → Result (Unit {0}) Rejection
outcome r = then r λ _. Ok tt

-- A PACKET: its sequence number, whether its frame is a key frame, and the frame's bytes
pub record PacketFields : Type 0 where
  pub number : ℕ
  pub key : Bool
  pub bytes : List ℕ

abbrev pub fields : Packet → PacketFields
fields p = record { number = p.number; key = p.key; bytes = vec_items p.bytes }

abbrev pub lent_fields : lent.Packet → PacketFields
lent_fields p = record { number = p.number; key = p.frame.header.key; bytes = p.frame.bytes.now }

unfoldable pub bytes_to_end : Words → Result (List ℕ) Rejection
bytes_to_end (end n) = Ok []
bytes_to_end (word n bytes ws) = then (next_number 255 (word n bytes ws)) λ p. then (bytes_to_end ws) λ more. Ok (p.0 ∷ more)

abbrev pub packet_of : List ℕ → Result PacketFields Rejection
packet_of line =
    then (next_number (2 ^ 62) (words line)) λ number.
    let key = next_is (codes "key") number.1 in
    then (bytes_to_end (cond key (rest number.1) number.1)) λ bytes.
    Ok (record { number = number.0; key = key; bytes = bytes })

abbrev pub packet_words : PacketFields → List (List ℕ)
packet_words p = decimal p.number ∷ (cond p.key (codes "key" ∷ []) [] ++ map decimal p.bytes)

abbrev pub packet_text : PacketFields → List ℕ
packet_text p = line_of (packet_words p)

-- what is answered where memory can run out, which says nothing of the line
abbrev pub Reads : {A B : Type 0} → (A → B) → Result B Rejection → Result A PacketError → Type 0
Reads value meant (Ok x) = meant ≡ Ok (value x)
Reads value meant (Err (Rejected e)) = meant ≡ Err e
Reads value meant (Err OutOfMemory) = Unit {0}

-- LINES OF THEIR OWN: `key`, and the distance of a picture's worst pixel
abbrev pub key_line : List ℕ → Bool
key_line line = is_ok (then (next_keyword (codes "key") (words line)) λ key. no_more key.1)

abbrev pub blank_line : List ℕ → Bool
blank_line line = at_end (words line)

abbrev pub worst_line : List ℕ → Bool
worst_line line = next_is (codes "worst") (words line)

abbrev pub worst_of : List ℕ → Result ℕ Rejection
worst_of line =
    then (next_keyword (codes "worst") (words line)) λ worst.
    then (next_number 255 worst.1) λ distance.
    then (no_more distance.1) λ _.
    Ok distance.0

abbrev pub worst_text : ℕ → List ℕ
worst_text distance = line_of (codes "worst" ∷ (decimal distance ∷ []))

-- WHAT A PLAYER SAYS of the picture that it shows
abbrev pub sure_text : ℕ → List ℕ
sure_text number = line_of (codes "sure" ∷ (decimal number ∷ []))

abbrev pub number_or_none : Option ℕ → List ℕ
number_or_none None = codes "none"
number_or_none (Some number) = decimal number

abbrev pub unsure_text : Option ℕ → List ℕ
unsure_text shown = line_of (codes "unsure," ∷ (number_or_none shown ∷ (codes "shown" ∷ [])))

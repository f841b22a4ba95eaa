-- Binary PGM pictures: what bytes mean. Assumes nothing: these are definitions.
use Rattle.std.specs.Prelude.{ℕ, ◌+◌, Bool, false, cond, not, ◌||◌, List, [], ◌∷◌, ◌++◌, length, take, drop, Ok, codes, decimal, Result, ◌==◌, nat_le, nat_lt, refl, slice_index}
use Rattle.pictures.specs.Bytes.{blank, size_of}
use Rattle.pictures.specs.Faults.{or_fault, required, then}
use Rattle.pictures.specs.Picture.{pixel_count}
use Rattle.pictures.specs.declared.error.Fault.TheVariants.{BadMagic, BadMaxValue, BadNumber, CutShort, NoDelimiter}
use Rattle.pictures.specs.declared.error.PictureError.{PictureError}
use Rattle.pictures.specs.declared.forms.Pgm.{Pgm}
use Rattle.pictures.specs.declared.forms.Size.{Size}
use Rattle.pictures.specs.declared.pgm_parsing.Number.{Number}
use Rattle.std.specs.Char.{is_ascii_digit}
use Rattle.std.specs.List.{between, prefix_len}
use Rattle.std.specs.Str.{bytes_eq}

-- A GAP is whitespace and comments. A comment begins with # and ends with its line, whose LF or CR is a part of it.
abbrev pub in_gap : (comment : Bool) → ℕ → Bool
in_gap comment c = comment || (blank c || c == 35)

abbrev pub comment_after : (comment : Bool) → ℕ → Bool
comment_after comment c = cond comment (not (c == 10 || c == 13)) (c == 35)

-- how many bytes of a gap there are, inside a comment or not
unfoldable pub gap : (comment : Bool) → List ℕ → ℕ
gap comment [] = 0
gap comment (c ∷ cs) = cond (in_gap comment c) (1 + gap (comment_after comment c) cs) 0

-- A NUMBER OF THE HEADER stands after a gap of one byte or more. It goes on as long as there are digits.
abbrev pub number_at : (bytes : List ℕ) → (offset : ℕ) → Result Number PictureError
number_at bytes offset =
    let start = offset + gap false (drop offset bytes) in
    let end = start + prefix_len is_ascii_digit (drop start bytes) in
    then (required (nat_lt offset start) BadNumber offset) λ _.
    then (or_fault (size_of (between start end bytes)) BadNumber start) λ n.
    Ok (record { value = n; start = start; end = end })

-- A PICTURE OF A SIZE whose pixels begin at a byte
abbrev pub pgm_from : Size → (start : ℕ) → Pgm
pgm_from size start = record { size = size; start = start; end = start + pixel_count size; whole = refl }

-- A PICTURE: P5, the width, the height, 255, one byte of whitespace, and a byte for each pixel, row by row. What follows
-- is no part of it.
abbrev pub pgm_of : (bytes : List ℕ) → Result Pgm PictureError
pgm_of bytes =
    then (required (bytes_eq (take 2 bytes) (codes "P5")) BadMagic 0) λ _.
    then (number_at bytes 2) λ width.
    then (number_at bytes width.end) λ height.
    then (number_at bytes height.end) λ max.
    then (required (max.value == 255) BadMaxValue max.start) λ _.
    then (required (blank (slice_index bytes max.end)) NoDelimiter max.end) λ _.
    let size : Size = record { width = width.value; height = height.value } in
    let picture = pgm_from size (max.end + 1) in
    then (required (nat_le picture.end (length bytes)) CutShort (length bytes)) λ _.
    Ok picture

-- ITS HEADER ALONE says where its pixels end, before they are there.
abbrev pub pgm_header_of : (bytes : List ℕ) → Result Pgm PictureError
pgm_header_of bytes =
    then (required (bytes_eq (take 2 bytes) (codes "P5")) BadMagic 0) λ _.
    then (number_at bytes 2) λ width.
    then (number_at bytes width.end) λ height.
    then (number_at bytes height.end) λ max.
    then (required (max.value == 255) BadMaxValue max.start) λ _.
    then (required (blank (slice_index bytes max.end)) NoDelimiter max.end) λ _.
    let size : Size = record { width = width.value; height = height.value } in
    Ok (pgm_from size (max.end + 1))

-- A HEADER AS IT IS MOSTLY WRITTEN, in three lines
abbrev pub plain_header : Size → List ℕ
plain_header size = codes "P5\n" ++ (decimal size.width ++ (codes " " ++ (decimal size.height ++ codes "\n255\n")))

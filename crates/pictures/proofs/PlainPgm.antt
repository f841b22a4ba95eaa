-- A picture with a plain header is read: each number stands after one byte of whitespace, and ends before the next.
use Rattle.std.proofs.Common.{◌≡◌, ℕ, ◌+◌, ◌^◌, ◌<◌, ◌≤◌, true, false, List, [], ◌∷◌, ◌++◌, length, get_or, take, drop, Ok, codes, decimal, sym, refl, ap, ◌∙◌, append_assoc, one-add, arith}
use Rattle.pictures.proofs.Numbers.{digits_of, size_decimal}
use Rattle.pictures.proofs.PgmChecked.{all_there, header_then_pixels}
use Rattle.pictures.specs.Bytes.{blank, size_of}
use Rattle.pictures.specs.Pgm.{comment_after, gap, in_gap, number_at, pgm_from, pgm_header_of, pgm_of, plain_header}
use Rattle.pictures.specs.Faults.{then}
use Rattle.pictures.specs.Picture.{pixel_count}
use Rattle.pictures.specs.Layout.{located, picture_at, picture_from}
use Rattle.pictures.specs.declared.forms.Layout.TheVariants.{Pictures}
use Rattle.pictures.specs.declared.forms.Pgm.{Pgm}
use Rattle.pictures.specs.declared.forms.Size.{Size}
use Rattle.pictures.specs.declared.pgm_parsing.Number.{Number}
use Rattle.std.proofs.lemmas.Fmt.{decimal_nonempty}
use Rattle.std.proofs.lemmas.List.{drop_at, drop-drop, get_or_at, length-append, take_at}
use Rattle.std.proofs.lemmas.Bool.{and_parts, cond-false, eq-eqb, le-leb, lt-ltb}
use Rattle.std.proofs.lemmas.Bool.Decides.{nat_tests}
use Rattle.std.specs.Char.{is_ascii_digit}
use Rattle.std.specs.Fmt.{digits}
use Rattle.std.specs.List.{between, prefix_len}
use Rattle.std.specs.Str.{all_ascii_digits, bytes_eq}

-- digits are in no gap
digit_in_no_gap : (c : ℕ) → is_ascii_digit c ≡ true → in_gap false c ≡ false
digit_in_no_gap c h = grind (arith, nat_tests)

gap_digits : (ds rest : List ℕ) → all_ascii_digits ds ≡ true → 0 < length ds → gap false (ds ++ rest) ≡ 0
unfolding gap
gap_digits [] rest h some = absurd (omega arith)
gap_digits (c ∷ cs) rest h some = cond-false _ _ _ (digit_in_no_gap c (and_parts (is_ascii_digit c) (all_ascii_digits cs) h).0)

gap_blank : (b : ℕ) (ds rest : List ℕ) → in_gap false b ≡ true → comment_after false b ≡ false → all_ascii_digits ds ≡ true → 0 < length ds → gap false (b ∷ (ds ++ rest)) ≡ 1
unfolding gap
gap_blank b ds rest e f h some = rw (e, f, gap_digits ds rest h some)

-- and go on up to what is none
leading_digits : (ds rest : List ℕ) (c : ℕ) → all_ascii_digits ds ≡ true → is_ascii_digit c ≡ false → prefix_len is_ascii_digit (ds ++ c ∷ rest) ≡ length ds
leading_digits [] rest c h e = rw e
leading_digits (d ∷ ds) rest c h e =
    let parts = and_parts (is_ascii_digit d) (all_ascii_digits ds) h in
    rw (parts.0, leading_digits ds rest c parts.1 e, one-add)

-- A NUMBER after a byte of whitespace at `front`, which any byte but a digit follows
module _ (bytes front rest : List ℕ) (b c n offset : ℕ) (is : bytes ≡ front ++ b ∷ (decimal n ++ c ∷ rest)) (at : length front ≡ offset)
    (gap_byte : in_gap false b ≡ true) (no_comment : comment_after false b ≡ false) (no_digit : is_ascii_digit c ≡ false) (some : 0 < n) (small : n < 2 ^ 16) where
  from_gap : drop offset bytes ≡ b ∷ (decimal n ++ c ∷ rest)
  from_gap = rw is (drop_at front _ offset at)

  gap_is : gap false (drop offset bytes) ≡ 1
  gap_is = ap (gap false) from_gap ∙ gap_blank b (decimal n) (c ∷ rest) gap_byte no_comment (digits_of n (omega arith)) (decimal_nonempty n (omega arith))

  from_digits : drop (offset + 1) bytes ≡ decimal n ++ c ∷ rest
  from_digits = sym (drop-drop 1 offset bytes) ∙ ap (drop 1) from_gap

  digits_are : prefix_len is_ascii_digit (drop (offset + 1) bytes) ≡ length (decimal n)
  digits_are = ap (prefix_len is_ascii_digit) from_digits ∙ leading_digits (decimal n) rest c (digits_of n (omega arith)) no_digit

  size_is : size_of (between (offset + 1) (offset + 1 + length (decimal n)) bytes) ≡ size_of (decimal n)
  size_is = ap size_of (rw from_digits (take_at (decimal n) (c ∷ rest) _ (omega arith)))

  pub number_plain : number_at bytes offset ≡ Ok (record { value = n; start = offset + 1; end = offset + 1 + length (decimal n) })
  number_plain = rw (gap_is, digits_are, lt-ltb offset (offset + 1) (omega arith), size_is, size_decimal n some small)

-- A PICTURE whose three numbers are read
module _ (bytes : List ℕ) (width height max : Number) (magic : bytes_eq (take 2 bytes) (codes "P5") ≡ true) (wide : number_at bytes 2 ≡ Ok width)
    (high : number_at bytes width.end ≡ Ok height) (most : number_at bytes height.end ≡ Ok max) (grey : max.value ≡ 255)
    (delimiter : blank (get_or bytes max.end 0) ≡ true) where
  pub header_read : pgm_header_of bytes ≡ Ok (pgm_from (record { width = width.value; height = height.value }) (max.end + 1))
  header_read = rw (magic, wide, high, most, eq-eqb max.value 255 grey, delimiter)

-- and all of whose pixels are there
module _ (bytes : List ℕ) (picture : Pgm) (read : pgm_header_of bytes ≡ Ok picture) (enough : picture.end ≤ length bytes) where
  pub picture_read : pgm_of bytes ≡ Ok picture
  picture_read = sym (header_then_pixels bytes) ∙ ap (λ r. then r (all_there bytes)) read ∙ rw (le-leb _ (length bytes) enough)

  pub picture_located : picture_at picture.size bytes ≡ Ok (picture_from picture.start (pixel_count picture.size) 0)
  picture_located = rw (read, eq-eqb picture.size.width _ refl, eq-eqb picture.size.height _ refl, le-leb _ (length bytes) enough)

decimal_255 : decimal 255 ≡ codes "255"
unfolding digits
decimal_255 = refl

-- where the numbers of a plain header end
abbrev at_height : Size → ℕ
at_height size = 3 + length (decimal size.width)

abbrev at_max : Size → ℕ
at_max size = at_height size + 1 + length (decimal size.height)

abbrev at_delimiter : Size → ℕ
at_delimiter size = at_max size + 1 + 3

-- and what stands before
before_height : Size → List ℕ
before_height size = codes "P5\n" ++ decimal size.width

before_max : Size → List ℕ
before_max size = codes "P5\n" ++ (decimal size.width ++ (codes " " ++ decimal size.height))

before_delimiter : Size → List ℕ
before_delimiter size = before_max size ++ codes "\n255"

module _ (size : Size) where
  long_height : length (before_height size) ≡ at_height size
  unfolding before_height
  long_height = omega arith

  long_max : length (before_max size) ≡ at_max size
  unfolding before_max
  long_max = simp length-append (omega arith)

  long_delimiter : length (before_delimiter size) ≡ at_delimiter size
  unfolding before_delimiter
  long_delimiter = simp length-append (omega (arith, long_max))

  long_header : at_delimiter size + 1 ≡ length (plain_header size)
  long_header = simp length-append (omega arith)

module _ (size : Size) (tail : List ℕ) where
  bytes : List ℕ
  bytes = plain_header size ++ tail

  from_width : bytes ≡ codes "P5" ++ 10 ∷ (decimal size.width ++ 32 ∷ (decimal size.height ++ (codes "\n255\n" ++ tail)))
  unfolding bytes
  from_width = simp append_assoc

  from_height : bytes ≡ before_height size ++ 32 ∷ (decimal size.height ++ 10 ∷ (codes "255\n" ++ tail))
  unfolding bytes before_height
  from_height = simp append_assoc

  from_max : bytes ≡ before_max size ++ 10 ∷ (codes "255" ++ 10 ∷ tail)
  unfolding bytes before_max
  from_max = simp append_assoc

  from_delimiter : bytes ≡ before_delimiter size ++ 10 ∷ tail
  unfolding bytes before_max before_delimiter
  from_delimiter = simp append_assoc

  width_read : 0 < size.width → size.width < 2 ^ 16 → number_at bytes 2 ≡ Ok (record { value = size.width; start = 3; end = at_height size })
  width_read p w = number_plain bytes (codes "P5") _ 10 32 size.width 2 from_width refl refl refl refl p w

  height_read : 0 < size.height → size.height < 2 ^ 16 → number_at bytes (at_height size) ≡ Ok (record { value = size.height; start = at_height size + 1; end = at_max size })
  height_read q h = number_plain bytes (before_height size) _ 32 10 size.height _ from_height (long_height size) refl refl refl q h

  max_read : number_at bytes (at_max size) ≡ Ok (record { value = 255; start = at_max size + 1; end = at_delimiter size })
  max_read =
      let is : bytes ≡ before_max size ++ 10 ∷ (decimal 255 ++ 10 ∷ tail) = from_max ∙ ap (λ ds. before_max size ++ 10 ∷ (ds ++ 10 ∷ tail)) (sym decimal_255) in
      number_plain bytes (before_max size) tail 10 10 255 _ is (long_max size) refl refl refl (omega arith) (omega arith)
      ∙ ap (λ ds. Ok (record { value = 255; start = at_max size + 1; end = at_max size + 1 + length ds })) decimal_255

  delimiter_read : blank (get_or bytes (at_delimiter size) 0) ≡ true
  delimiter_read = ap blank (ap (λ bs. get_or bs (at_delimiter size) 0) from_delimiter ∙ get_or_at (before_delimiter size) 10 tail 0 _ (long_delimiter size))

  long_bytes : length bytes ≡ at_delimiter size + 1 + length tail
  unfolding bytes
  long_bytes = length-append (plain_header size) tail ∙ ap (λ n. n + length tail) (sym (long_header size))

  magic_read : bytes_eq (take 2 bytes) (codes "P5") ≡ true
  unfolding bytes
  magic_read = refl

-- A PICTURE WITH A PLAIN HEADER, whose pixels stand after it
module _ (size : Size) (pixels more : List ℕ) (p : 0 < size.width) (w : size.width < 2 ^ 16) (q : 0 < size.height) (h : size.height < 2 ^ 16) (l : length pixels ≡ pixel_count size) where
  tail : List ℕ
  tail = pixels ++ more

  read : pgm_header_of (bytes size tail)
      ≡ Ok (pgm_from size (at_delimiter size + 1))
  read =
      header_read (bytes size tail) _ _ _ (magic_read size tail) (width_read size tail p w) (height_read size tail q h)
      (max_read size tail) refl (delimiter_read size tail)

  enough : at_delimiter size + 1 + pixel_count size ≤ length (bytes size tail)
  unfolding tail
  enough = omega (arith, long_bytes size tail, length-append pixels more)

  pub plain_picture : pgm_of (plain_header size ++ (pixels ++ more))
      ≡ Ok (pgm_from size (length (plain_header size)))
  unfolding bytes tail
  plain_picture =
      picture_read (bytes size tail) _ read enough
      ∙ ap (λ n. Ok (pgm_from size n)) (long_header size)

  pub plain_picture_located : located (Pictures size) (plain_header size ++ (pixels ++ more))
      ≡ Ok (picture_from (length (plain_header size)) (length pixels) 0)
  unfolding bytes tail
  plain_picture_located =
      picture_located (bytes size tail) _ read enough
      ∙ (λ i. Ok (picture_from (long_header size i) (sym l i) 0))

-- Files of pictures: what they are, how they begin, and where each picture's grey pixels stand. Assumes nothing: these are definitions.
use Rattle.std.specs.Prelude.{ℕ, ◌+◌, cond, ◌&&◌, List, length, take, Ok, codes, Result, ◌==◌, nat_le, nat_lt}
use Rattle.pictures.specs.Bytes.{not_byte}
use Rattle.pictures.specs.Faults.{required, then}
use Rattle.pictures.specs.Pgm.{pgm_header_of}
use Rattle.pictures.specs.Picture.{pixel_count}
use Rattle.pictures.specs.Y4m.{frame_line, header_of}
use Rattle.pictures.specs.declared.error.Fault.TheVariants.{CutShort, NoFrame, NoLineEnd, OtherSize}
use Rattle.pictures.specs.declared.error.PictureError.{PictureError}
use Rattle.pictures.specs.declared.forms.Form.{Form}
use Rattle.pictures.specs.declared.forms.Form.TheVariants.{Pgm, Text, Y4m}
use Rattle.pictures.specs.declared.forms.Layout.{Layout}
use Rattle.pictures.specs.declared.forms.Layout.TheVariants.{Frames, Pictures}
use Rattle.pictures.specs.declared.forms.Opening.{Opening}
use Rattle.pictures.specs.declared.forms.PictureAt.{PictureAt}
use Rattle.pictures.specs.declared.forms.Size.{Size}
use Rattle.pictures.specs.declared.forms.Y4mHeader.{Y4mHeader}
use Rattle.std.proofs.Math.Nat.{le-add_right}
use Rattle.std.specs.List.{prefix_len}
use Rattle.std.specs.Str.{bytes_eq}

-- WHAT A FILE IS, its first bytes say.
abbrev pub form_of : List ℕ → Form
form_of bytes = cond (bytes_eq (codes "YUV4MPEG2") (take 9 bytes)) Y4m (cond (bytes_eq (codes "P5") (take 2 bytes)) Pgm Text)

-- HOW A FILE BEGINS: with a header line, after which the first frame begins, or with the first of the pictures, whose size is
-- that of all.
abbrev pub line_length : List ℕ → ℕ
line_length bytes = prefix_len (not_byte 10) bytes

abbrev pub y4m_opening : List ℕ → Result Opening PictureError
y4m_opening bytes =
    let end = line_length bytes in
    then (required (nat_lt end (length bytes)) NoLineEnd (length bytes)) λ _.
    then (header_of (take end bytes)) λ header.
    Ok (record { layout = Frames header; start = end + 1 })

abbrev pub pgm_opening : List ℕ → Result Opening PictureError
pgm_opening bytes =
    then (pgm_header_of bytes) λ first.
    Ok (record { layout = Pictures first.size; start = 0 })

abbrev pub layout_size : Layout → Size
layout_size (Frames header) = header.size
layout_size (Pictures size) = size

-- WHERE A PICTURE STANDS whose pixels begin at a byte: so many pixels, and so many bytes up to the next picture
abbrev pub picture_from : (start pixels more : ℕ) → PictureAt
picture_from start pixels more =
    record {
      start = start;
      end = start + pixels;
      next = start + pixels + more;
      ordered = le-add_right start pixels;
      followed = le-add_right (start + pixels) more;
    }

-- A FRAME is a line, its luma and its chroma. Of the chroma nothing is read.
abbrev pub frame_at : Y4mHeader → List ℕ → Result PictureAt PictureError
frame_at header bytes =
    let line = line_length bytes in
    let at = picture_from (line + 1) (pixel_count header.size) header.chroma in
    then (required (nat_lt line (length bytes)) CutShort (length bytes)) λ _.
    then (required (frame_line (take line bytes)) NoFrame 0) λ _.
    then (required (nat_le at.next (length bytes)) CutShort (length bytes)) λ _.
    Ok at

-- A PICTURE OF A SEQUENCE has the size of the first.
abbrev pub picture_at : Size → List ℕ → Result PictureAt PictureError
picture_at size bytes =
    then (pgm_header_of bytes) λ picture.
    then (required (picture.size.width == size.width && picture.size.height == size.height) OtherSize 0) λ _.
    then (required (nat_le picture.end (length bytes)) CutShort (length bytes)) λ _.
    Ok (picture_from picture.start (pixel_count picture.size) 0)

abbrev pub located : Layout → List ℕ → Result PictureAt PictureError
located (Frames header) bytes = frame_at header bytes
located (Pictures size) bytes = picture_at size bytes

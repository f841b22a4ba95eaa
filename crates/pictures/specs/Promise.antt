-- What the picture formats promise. Each is a statement, and a function's contract asks for its proof.
use Rattle.std.specs.Prelude.{◌≡◌, ℕ, ◌+◌, ◌*◌, ◌%◌, ◌^◌, ◌<◌, ◌≤◌, true, false, List, ◌++◌, length, Some, None, Ok, codes, ◌≢◌, slice_index}
use Rattle.pictures.specs.Bytes.{cut}
use Rattle.pictures.specs.Faults.{fault_at}
use Rattle.pictures.specs.Picture.{padded, padded_picture_pixel, pixel_count}
use Rattle.pictures.specs.Pgm.{pgm_from, pgm_of, plain_header}
use Rattle.pictures.specs.Layout.{form_of, located, picture_from, y4m_opening}
use Rattle.pictures.specs.Y4m.{frame_line, header_of, header_text, line_of, rate_of}
use Rattle.pictures.specs.declared.error.Fault.TheVariants.{BadMagic, BadMaxValue, BadNumber, CutShort, NoDelimiter, NoFrame, NoHeight, NoLineEnd, NoWidth, OtherSize, UnknownColourSpace}
use Rattle.pictures.specs.declared.forms.Form.TheVariants.{Pgm, Text, Y4m}
use Rattle.pictures.specs.declared.forms.Layout.TheVariants.{Frames, Pictures}
use Rattle.pictures.specs.declared.forms.FrameRate.{FrameRate}
use Rattle.pictures.specs.declared.forms.Size.{Size}
use Rattle.std.specs.List.{AllByRecursion}

-- THE HEADER THAT IS WRITTEN IS READ BACK as the same width and height with no chroma, since its words are those that it was
-- written from, and the digits of a number mean that number.
abbrev pub ReadsBack : Type 0
ReadsBack = (size : Size) (rate : FrameRate) → 0 < size.width → size.width < 2 ^ 16 → 0 < size.height → size.height < 2 ^ 16 →
    rate.frames < 2 ^ 32 → rate.seconds < 2 ^ 32 → header_of (header_text size rate) ≡ Ok (record { size = size; chroma = 0 })

-- A PICTURE WITH A PLAIN HEADER IS READ as its width, its height and just its pixels, whatever follows, since its numbers
-- end where their digits do.
abbrev pub PlainPicture : Type 0
PlainPicture = (size : Size) (pixels more : List ℕ) → 0 < size.width → size.width < 2 ^ 16 → 0 < size.height → size.height < 2 ^ 16 → length pixels ≡ pixel_count size →
    (pgm_of (plain_header size ++ (pixels ++ more)) ≡ Ok (pgm_from size (length (plain_header size))))
    × ((pgm_from size (length (plain_header size))).size ≡ size)
    × ((pgm_from size (length (plain_header size))).start ≡ length (plain_header size))
    × ((pgm_from size (length (plain_header size))).end ≡ length (plain_header size) + length pixels)

-- AND IN A FILE OF PICTURES OF ITS SIZE IT IS FOUND there, and the next begins where its pixels end.
abbrev pub PlainPictureLocated : Type 0
PlainPictureLocated = (size : Size) (pixels more : List ℕ) → 0 < size.width → size.width < 2 ^ 16 → 0 < size.height → size.height < 2 ^ 16 → length pixels ≡ pixel_count size →
    (located (Pictures size) (plain_header size ++ (pixels ++ more)) ≡ Ok (picture_from (length (plain_header size)) (length pixels) 0))
    × ((picture_from (length (plain_header size)) (length pixels) 0).start ≡ length (plain_header size))
    × ((picture_from (length (plain_header size)) (length pixels) 0).end ≡ length (plain_header size) + length pixels)
    × ((picture_from (length (plain_header size)) (length pixels) 0).next ≡ length (plain_header size) + length pixels)

-- A LINE IS ITS WORDS WITH A SPACE BETWEEN EACH TWO, and no word has a space, since it is cut at every one.
pub record CutAtSpaces : Type 0 where
  pub same : (line : List ℕ) → line_of (cut line) ≡ line
  pub no_space : (line : List ℕ) → AllByRecursion (AllByRecursion (λ c. c ≢ 32)) (cut line)

-- A PADDED SIZE IS THE LEAST MULTIPLE OF FOUR THAT IS NOT BELOW THE SIZE, since fewer than four are added.
pub record PadsToBlocks : Type 0 where
  pub whole : (size : ℕ) → padded size % 4 ≡ 0
  pub enough : (size : ℕ) → size ≤ padded size
  pub least : (size : ℕ) → padded size < size + 4

-- A PADDED PICTURE HAS THE PICTURE IN ITS UPPER LEFT, since a column or a row is repeated only past the last.
abbrev pub PaddingKeeps : Type 0
PaddingKeeps = (pixels : List ℕ) (size : Size) (column row : ℕ) → column < size.width → row < size.height →
    padded_picture_pixel pixels size (row * padded size.width + column) ≡ slice_index pixels (row * size.width + column)

-- WORKED EXAMPLES
pub record Examples : Type 0 where
  pub grey : header_of (codes "YUV4MPEG2 W16 H8 F25:1 Ip A1:1 Cmono XCOLORRANGE=FULL") ≡ Ok (record { size = record { width = 16; height = 8 }; chroma = 0 })
  pub colour : header_of (codes "YUV4MPEG2 W16 H8 F25:1 Ip A1:1 C420jpeg XYSCSS=420JPEG XCOLORRANGE=LIMITED") ≡ Ok (record { size = record { width = 16; height = 8 }; chroma = 64 })
  pub odd : header_of (codes "YUV4MPEG2 H7 W15") ≡ Ok (record { size = record { width = 15; height = 7 }; chroma = 64 })
  pub half : header_of (codes "YUV4MPEG2 H7 W15 C422") ≡ Ok (record { size = record { width = 15; height = 7 }; chroma = 112 })
  pub full : header_of (codes "YUV4MPEG2 H7 W15 C444") ≡ Ok (record { size = record { width = 15; height = 7 }; chroma = 210 })
  pub deep : header_of (codes "YUV4MPEG2 W15 H7 Cmono10") ≡ fault_at UnknownColourSpace 17
  pub wide : header_of (codes "YUV4MPEG2 W65536 H7") ≡ fault_at BadNumber 10
  pub no_width : header_of (codes "YUV4MPEG2 H7") ≡ fault_at NoWidth 12
  pub no_height : header_of (codes "YUV4MPEG2 W7") ≡ fault_at NoHeight 12
  pub other : header_of (codes "YUV4MPEG3 W15 H7") ≡ fault_at BadMagic 0
  pub written_frame : frame_line (codes "FRAME") ≡ true
  pub frame : frame_line (codes "FRAME Ip") ≡ true
  pub no_frame : frame_line (codes "FRAMES") ≡ false
  pub picture : pgm_of (codes "P5\n# 2 by 1\n2 1\n255\nab") ≡ Ok (pgm_from (record { width = 2; height = 1 }) 20)
  pub picture_size : (pgm_from (record { width = 2; height = 1 }) 20).size ≡ record { width = 2; height = 1 }
  pub picture_place : ((pgm_from (record { width = 2; height = 1 }) 20).start ≡ 20) × ((pgm_from (record { width = 2; height = 1 }) 20).end ≡ 22)
  pub two_pictures : pgm_of (codes "P5 2 1 255 abP5 1 1 255 c") ≡ Ok (pgm_from (record { width = 2; height = 1 }) 11)
  pub first_place : ((pgm_from (record { width = 2; height = 1 }) 11).start ≡ 11) × ((pgm_from (record { width = 2; height = 1 }) 11).end ≡ 13)
  pub cut_short : pgm_of (codes "P5 2 1 255 a") ≡ fault_at CutShort 12
  pub cut_short_located : located (Pictures (record { width = 2; height = 1 })) (codes "P5 2 1 255 a") ≡ fault_at CutShort 12
  pub other_size : located (Pictures (record { width = 2; height = 1 })) (codes "P5 1 1 255 a") ≡ fault_at OtherSize 0
  pub stream : y4m_opening (codes "YUV4MPEG2 W2 H1 Cmono\nFRAME\nab") ≡ Ok (record { layout = Frames (record { size = record { width = 2; height = 1 }; chroma = 0 }); start = 22 })
  pub unended : y4m_opening (codes "YUV4MPEG2 W2 H1") ≡ fault_at NoLineEnd 15
  pub grey_frame : located (Frames (record { size = record { width = 2; height = 1 }; chroma = 2 })) (codes "FRAME\nabuvFRAME\n") ≡ Ok (picture_from 6 2 2)
  pub frame_place : ((picture_from 6 2 2).start ≡ 6) × ((picture_from 6 2 2).end ≡ 8) × ((picture_from 6 2 2).next ≡ 10)
  pub cut_frame : located (Frames (record { size = record { width = 2; height = 1 }; chroma = 2 })) (codes "FRAME\nabu") ≡ fault_at CutShort 9
  pub other_line : located (Frames (record { size = record { width = 2; height = 1 }; chroma = 0 })) (codes "FRAM\nab") ≡ fault_at NoFrame 0
  pub y4m_form : form_of (codes "YUV4MPEG2 W2") ≡ Y4m
  pub pgm_form : form_of (codes "P5\n2") ≡ Pgm
  pub text_form : form_of (codes "size 1 1 step 8") ≡ Text
  pub whole_rate : rate_of (codes "25") ≡ Some (record { frames = 25; seconds = 1 })
  pub broken_rate : rate_of (codes "30000:1001") ≡ Some (record { frames = 30000; seconds = 1001 })
  pub no_rate : rate_of (codes "25:") ≡ None
  pub no_delimiter : pgm_of (codes "P5 2 1 255#ab") ≡ fault_at NoDelimiter 10
  pub two_bytes : pgm_of (codes "P5 2 1 256 abcd") ≡ fault_at BadMaxValue 7
  pub no_size : pgm_of (codes "P5 2 x 255 ab") ≡ fault_at BadNumber 5

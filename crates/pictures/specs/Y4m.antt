-- Y4M streams: what the header line means, and the line that is written. Assumes nothing: these are definitions.
use Rattle.std.specs.Prelude.{ℕ, ◌+◌, ◌*◌, ◌/◌, Bool, cond, List, [], ◌∷◌, ◌++◌, length, take, Some, None, Ok, codes, decimal, Option, Result, ◌==◌}
use Rattle.pictures.specs.Bytes.{cut, not_byte, one_of, size_of}
use Rattle.pictures.specs.Faults.{fault_at, or_fault, then}
use Rattle.pictures.specs.Picture.{marked_strip}
use Rattle.pictures.specs.declared.error.Fault.TheVariants.{BadMagic, BadNumber, NoHeight, NoWidth, UnknownColourSpace}
use Rattle.pictures.specs.declared.error.PictureError.{PictureError}
use Rattle.pictures.specs.declared.forms.FrameRate.{FrameRate}
use Rattle.pictures.specs.declared.forms.Mark.{Mark}
use Rattle.pictures.specs.declared.forms.Size.{Size}
use Rattle.pictures.specs.declared.forms.Y4mHeader.{Y4mHeader}
use Rattle.pictures.specs.declared.y4m_tags.ColourSpace as colour
use Rattle.pictures.specs.declared.y4m_tags.ColourSpace.TheVariants.{Mono, Yuv420, Yuv422, Yuv444}
use Rattle.pictures.specs.declared.y4m_tags.Tags.{Tags}
use Rattle.std.specs.List.{between, prefix_len}
use Rattle.std.specs.Str.{bytes_eq}

-- THE COLOUR SPACES that can be read have eight bits a sample. Of a grey picture there is no chroma; else there are two planes
-- of chroma, which are half as wide as the picture in 420 and 422, and half as high in 420, both rounded up.
abbrev pub names_420 : List (List ℕ)
names_420 = codes "420" ∷ codes "420jpeg" ∷ codes "420paldv" ∷ codes "420mpeg2" ∷ []

abbrev pub colour_space_of : List ℕ → Option colour.ColourSpace
colour_space_of name =
    cond (bytes_eq name (codes "mono")) (Some Mono)
    (cond (one_of names_420 name) (Some Yuv420)
    (cond (bytes_eq name (codes "422")) (Some Yuv422)
    (cond (bytes_eq name (codes "444")) (Some Yuv444) None)))

abbrev pub chroma_size : colour.ColourSpace → Size → ℕ
chroma_size Mono size = 0
chroma_size Yuv420 size = 2 * (((size.width + 1) / 2) * ((size.height + 1) / 2))
chroma_size Yuv422 size = 2 * (((size.width + 1) / 2) * size.height)
chroma_size Yuv444 size = 2 * (size.width * size.height)

-- A TAG is a letter and a value: W (87) is the width, H (72) the height, C (67) the colour space, and any other says nothing.
-- Of two tags with one letter the later counts, and without a C it is 420. A bad value is a fault at the tag's position.
abbrev pub no_tags : Tags
no_tags = record { width = None; height = None; colours = Yuv420 }

abbrev pub with_tag : Tags → (tag : List ℕ) → (position : ℕ) → Result Tags PictureError
with_tag tags [] position = Ok tags
with_tag tags (letter ∷ bytes) position =
    cond (letter == 87) (then (or_fault (size_of bytes) BadNumber position) λ n. Ok (record { width = Some n; height = tags.height; colours = tags.colours }))
    (cond (letter == 72) (then (or_fault (size_of bytes) BadNumber position) λ n. Ok (record { width = tags.width; height = Some n; colours = tags.colours }))
    (cond (letter == 67) (then (or_fault (colour_space_of bytes) UnknownColourSpace position) λ c. Ok (record { width = tags.width; height = tags.height; colours = c }))
    (Ok tags)))

-- words with a space between, the first of which stands at this position
unfoldable pub with_tags : Tags → (position : ℕ) → List (List ℕ) → Result Tags PictureError
with_tags tags position [] = Ok tags
with_tags tags position (w ∷ ws) = then (with_tag tags w position) λ more. with_tags more (position + length w + 1) ws

-- THE HEADER has a width and a height. Where one is missing, that is a fault at the line's end.
abbrev pub header_from : Tags → (position : ℕ) → Result Y4mHeader PictureError
header_from tags position =
    then (or_fault tags.width NoWidth position) λ width.
    then (or_fault tags.height NoHeight position) λ height.
    let size : Size = record { width = width; height = height } in
    Ok (record { size = size; chroma = chroma_size tags.colours size })

abbrev pub header_words : (end : ℕ) → List (List ℕ) → Result Y4mHeader PictureError
header_words end [] = fault_at BadMagic 0
header_words end (w ∷ ws) =
    cond (bytes_eq w (codes "YUV4MPEG2")) (then (with_tags no_tags (length w + 1) ws) λ tags. header_from tags end) (fault_at BadMagic 0)

abbrev pub header_of : (line : List ℕ) → Result Y4mHeader PictureError
header_of line = header_words (length line) (cut line)

-- THE LINE BEFORE A FRAME
abbrev pub first_word : List (List ℕ) → List ℕ
first_word [] = []
first_word (w ∷ ws) = w

-- has FRAME for its first word. What follows are parameters, which say nothing here.
abbrev pub frame_line : (line : List ℕ) → Bool
frame_line line = bytes_eq (first_word (cut line)) (codes "FRAME")

-- WHAT IS WRITTEN
abbrev pub spaced : List (List ℕ) → List ℕ
spaced [] = []
spaced (w ∷ ws) = 32 ∷ (w ++ spaced ws)

abbrev pub line_of : List (List ℕ) → List ℕ
line_of [] = []
line_of (w ∷ ws) = w ++ spaced ws

-- frames in the order in which they are seen, and pixels as wide as high
abbrev pub written_words : Size → FrameRate → List (List ℕ)
written_words size rate =
    codes "YUV4MPEG2" ∷ (codes "W" ++ decimal size.width) ∷ (codes "H" ++ decimal size.height)
    ∷ (codes "F" ++ (decimal rate.frames ++ (codes ":" ++ decimal rate.seconds))) ∷ codes "Ip" ∷ codes "A1:1" ∷ codes "Cmono" ∷ []

abbrev pub header_text : Size → FrameRate → List ℕ
header_text size rate = line_of (written_words size rate)

-- a frame, whose picture has its mark below it
abbrev pub frame_bytes : (width : ℕ) → (picture : List ℕ) → Mark → List ℕ
frame_bytes width picture mark = codes "FRAME\n" ++ (picture ++ marked_strip mark width)

-- A FRAME RATE is a number of frames, in one second or, after a colon, in so many
abbrev pub rate_from : Option ℕ → Option ℕ → Option FrameRate
rate_from None seconds = None
rate_from (Some frames) None = None
rate_from (Some frames) (Some seconds) = Some (record { frames = frames; seconds = seconds })

abbrev pub rate_of : List ℕ → Option FrameRate
rate_of word =
    let end = prefix_len (not_byte 58) word in
    rate_from (size_of (take end word)) (cond (end == length word) (Some 1) (size_of (between (end + 1) (length word) word)))

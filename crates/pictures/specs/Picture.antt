-- The strip below a played picture, and pictures that are padded to whole blocks. Assumes nothing: these are definitions.
use Rattle.std.specs.Prelude.{ℕ, ◌+◌, ◌-◌, ◌*◌, ◌/◌, ◌%◌, min, max, Bool, true, false, cond, List, map, length, ◌==◌, slice_index}
use Rattle.pictures.specs.declared.forms.Mark.{Mark}
use Rattle.pictures.specs.declared.forms.Mark.TheVariants.{Nothing, Sure, Unsure}
use Rattle.pictures.specs.declared.forms.Size.{Size}
use Rattle.std.specs.List.{range_with_len}

abbrev pub pixel_count : Size → ℕ
pixel_count size = size.width * size.height

-- THE STRIP is four equal rows as wide as the picture, below it. It is white (235) where the receiver is sure of the picture,
-- squares of four by four, black (16) and white in turn from the left, where it is not, and black where nothing was shown yet.
abbrev pub mark_pixel : Mark → (column : ℕ) → ℕ
mark_pixel Sure column = 235
mark_pixel Unsure column = cond (column / 4 % 2 == 0) 16 235
mark_pixel Nothing column = 16

abbrev pub marked_row : Mark → (width : ℕ) → List ℕ
marked_row mark width = map (mark_pixel mark) (range_with_len 0 width)

-- the pixel at an index of the whole strip
abbrev pub strip_pixel : Mark → (width index : ℕ) → ℕ
strip_pixel mark width index = mark_pixel mark (index % max width 1)

abbrev pub marked_strip : Mark → (width : ℕ) → List ℕ
marked_strip mark width = map (strip_pixel mark width) (range_with_len 0 (4 * width))

-- A RECEIVER MARKS what it shows, if it has shown anything.
abbrev pub mark_of : (shown sure : Bool) → Mark
mark_of false sure = Nothing
mark_of true true = Sure
mark_of true false = Unsure

-- PADDING goes to the next multiple of four, and repeats the last pixel. A row of no pixels is padded with 0.
abbrev pub padded : ℕ → ℕ
padded size = (size + 3) / 4 * 4

abbrev pub padded_pixel : List ℕ → (column : ℕ) → ℕ
padded_pixel pixels column = slice_index pixels (min column (length pixels - 1))

abbrev pub padded_row : List ℕ → (width : ℕ) → List ℕ
padded_row pixels width = map (padded_pixel pixels) (range_with_len 0 width)

-- A PADDED PICTURE repeats the last column and the last row. A pixel that the picture lacks is 0.
-- the pixel at an index of the padded picture
abbrev pub padded_picture_pixel : List ℕ → Size → (index : ℕ) → ℕ
padded_picture_pixel pixels size index =
    let across = max (padded size.width) 1 in
    let column = min (index % across) (size.width - 1) in
    let row = min (index / across) (size.height - 1) in
    slice_index pixels (row * size.width + column)

abbrev pub padded_picture : List ℕ → Size → (count : ℕ) → List ℕ
padded_picture pixels size count = map (padded_picture_pixel pixels size) (range_with_len 0 count)

-- KEY FRAMES AT AN INTERVAL: the first picture, and each that is a multiple of the interval after it
abbrev pub key_frame : (interval number : ℕ) → Bool
key_frame interval number = number % interval == 0

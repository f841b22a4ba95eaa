-- What the steps of decoding a frame leave behind. Assumes nothing: these are definitions.
use Rattle.std.specs.Prelude.{◌≡◌, ℕ, ◌+◌, ◌*◌, ◌/◌, ◌%◌, ◌<◌, ◌≤◌, Bool, true, false, cond, List, Ok, Err, Result, ◌==◌, slice_index}
use Rattle.range_coder.specs.Code.{reader_of}
use Rattle.range_coder.specs.Decisions.{ReaderState}
use Rattle.range_coder.specs.declared.reader.Reader.{Reader}
use Rattle.block.specs.Picture.{Picture, picture_in}
use Rattle.block.specs.Transform.{pixel_in}
use Rattle.frame.specs.declared.show_error.ShowError.{ShowError}
use Rattle.frame.specs.declared.show_error.ShowError.TheVariants.{Invalid}
use Rattle.frame.specs.Frame.{Format, block_at, block_count, block_predictable, past, picture_of}

-- a row of blocks, four rows of pixels: block `column` of it is written, and the others are as they were
abbrev pub BlockPut : (width column : ℕ) → (pixels old new : List ℕ) → Type 0
BlockPut width column pixels old new =
    (x y : ℕ) → x < width → y < 4 → slice_index new (y * width + x) ≡ cond (x / 4 == column) (pixel_in pixels (x % 4) y) (slice_index old (y * width + x))

-- the first n columns of blocks of row `row` hold the picture
abbrev pub RowDrawn : Format → Picture → (row n : ℕ) → (band : List ℕ) → Type 0
RowDrawn f picture row n band = (x y : ℕ) → x < 4 * n → x < 4 * f.across → y < 4 → slice_index band (y * (4 * f.across) + x) ≡ picture x (4 * row + y)

-- the first rows of pixels of a picture, so many
abbrev pub Drawn : (width rows : ℕ) → Picture → List ℕ → Type 0
Drawn width rows picture pixels = (x y : ℕ) → x < width → y < rows → slice_index pixels (y * width + x) ≡ picture x y

-- what a reader's blocks make of a reference picture
abbrev pub picture_read : Format → (key : Bool) → ReaderState → (reference : List ℕ) → Picture
picture_read f key r reference = picture_of f (picture_in (4 * f.across) reference) (block_at key r)

-- the blocks from n up to m can be predicted
abbrev pub Predictable : Format → (key : Bool) → ReaderState → (n m : ℕ) → Type 0
Predictable f key r n m = (i : ℕ) → n ≤ i → i < m → block_predictable f (block_at key r) i ≡ true

-- one of a frame's blocks cannot be predicted
abbrev pub Unpredictable : Format → (key : Bool) → ReaderState → Type 0
Unpredictable f key r = (i : ℕ) × (i < block_count f) × (block_predictable f (block_at key r) i ≡ false)

-- block `column` of row `row` of a frame whose blocks a reader r gives is read and drawn, or cannot be predicted
abbrev pub BlockDecoded : Format → (key : Bool) → ReaderState → (reference : List ℕ) → (row column : ℕ) → Reader → (old new : List ℕ) → Result (Unit {0}) ShowError → Type 0
BlockDecoded f key r reference row column reader old new (Err e) = (e ≡ Invalid) × Unpredictable f key r
BlockDecoded f key r reference row column reader old new (Ok u) =
    (reader_of reader ≡ past key r (row * f.across + column + 1))
    × (block_predictable f (block_at key r) (row * f.across + column) ≡ true)
    × ((x y : ℕ) → x < 4 * f.across → y < 4 →
    slice_index new (y * (4 * f.across) + x) ≡ cond (x / 4 == column) (picture_read f key r reference x (4 * row + y)) (slice_index old (y * (4 * f.across) + x)))

-- row `row` of blocks is read and drawn, or some block cannot be predicted
abbrev pub RowDecoded : Format → (key : Bool) → ReaderState → (reference : List ℕ) → (row : ℕ) → Reader → (band : List ℕ) → Result (Unit {0}) ShowError → Type 0
RowDecoded f key r reference row reader band (Err e) = (e ≡ Invalid) × Unpredictable f key r
RowDecoded f key r reference row reader band (Ok u) =
    (reader_of reader ≡ past key r ((row + 1) * f.across))
    × Predictable f key r (row * f.across) ((row + 1) * f.across)
    × RowDrawn f (picture_read f key r reference) row f.across band

-- Pictures. Assumes nothing: these are definitions.
use Rattle.std.specs.Prelude.{ℕ, ◌+◌, ◌*◌, List, slice_index}
use Rattle.block.specs.declared.block.Plane.{Plane}

-- the pixel, 0 to 255, at column x and row y
abbrev pub Picture : Type 0
Picture = ℕ → ℕ → ℕ

-- a picture in numbers, row by row, each row so wide
abbrev pub picture_in : (width : ℕ) → List ℕ → Picture
picture_in width pixels x y = slice_index pixels (y * width + x)

abbrev pub picture_of : Plane → Picture
picture_of plane = picture_in plane.size.width plane.pixels.now

unfoldable pub black : Picture
black x y = 0

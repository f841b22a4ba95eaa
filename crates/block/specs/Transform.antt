-- What levels add to a block of four by four pixels: a Walsh–Hadamard transform in whole numbers.
-- Assumes nothing: these are definitions.
use Rattle.std.specs.Prelude.{ℕ, ◌+◌, ◌-◌, ◌*◌, ◌/◌, ◌%◌, min, Bool, true, false, List, ℤ, pos, negsuc, ◌+ℤ◌, ◌-ℤ◌, ◌*ℤ◌, ◌==◌, slice_index, slice_index_or}

-- basis function u of four is positive at x where u and x have an even number of binary ones in common
unfoldable pub positive : ℕ → ℕ → Bool
positive u x = (u % 2 * (x % 2) + (u / 2 % 2) * (x / 2 % 2)) % 2 == 0

unfoldable pub signed : Bool → ℤ → ℤ
signed true z = z
signed false z = pos 0 -ℤ z

unfoldable pub sum4 : (ℕ → ℤ) → ℤ
sum4 f = f 0 +ℤ (f 1 +ℤ (f 2 +ℤ f 3))

-- the value at column x and row y of sixteen, row by row
abbrev pub value_in : List ℤ → ℕ → ℕ → ℤ
value_in values x y = slice_index_or values (4 * y + x) (pos 0)

-- sixteen levels, row by row: level 4 v + u belongs to basis function u across and v down
abbrev pub level : List ℤ → ℕ → ℕ → ℤ
level levels u v = slice_index_or levels (4 * v + u) (pos 0)

-- a sixteenth, rounded down, below 0 too
unfoldable pub floor16 : ℤ → ℤ
floor16 (pos n) = pos (n / 16)
floor16 (negsuc n) = negsuc (n / 16)

-- the sum of sixteen basis functions at a pixel, c u v being how much of each there is
unfoldable pub inverse_transform : (ℕ → ℕ → ℤ) → ℕ → ℕ → ℤ
inverse_transform c x y = sum4 (λ u. sum4 (λ v. signed (positive u x) (signed (positive v y) (c u v))))

-- what levels add at column x and row y of the block
unfoldable pub residual : (step : ℕ) → (levels : List ℤ) → ℕ → ℕ → ℤ
residual step levels x y = floor16 (inverse_transform (λ u v. pos step *ℤ level levels u v) x y +ℤ pos 8)

-- a pixel is at least 0 and at most 255
unfoldable pub clipped : ℤ → ℕ
clipped (pos n) = min n 255
clipped (negsuc n) = 0

-- how far two pixels are apart
unfoldable pub distance : ℕ → ℕ → ℕ
distance a b = (a - b) + (b - a)

-- the pixel at column x and row y of sixteen, row by row
abbrev pub pixel_in : List ℕ → ℕ → ℕ → ℕ
pixel_in pixels x y = slice_index pixels (4 * y + x)

-- what is shown where a pixel is predicted as p
unfoldable pub reconstructed : (step : ℕ) → (levels : List ℤ) → (p x y : ℕ) → ℕ
reconstructed step levels p x y = clipped (pos p +ℤ residual step levels x y)

-- What the stages of the transform compute: a pass over rows, one basis function's sign, a coefficient in steps.
-- Assumes nothing: these are definitions.
use Rattle.std.specs.Prelude.{◌≡◌, ℕ, ◌/◌, ◌%◌, ◌<◌, Bool, cond, not, List, ℤ, pos, ◌+ℤ◌, ◌-ℤ◌}
use Rattle.std.specs.Int.{int_div_euclid}
use Rattle.block.specs.Transform.{inverse_transform, pixel_in, positive, signed, sum4, value_in}

-- the sum of four basis functions at x, f u being how much of each there is
unfoldable pub transform4 : (ℕ → ℤ) → ℕ → ℤ
transform4 f x = sum4 (λ u. signed (positive u x) (f u))

-- the columns below n of `out` are the rows of `rows`, transformed
abbrev pub Transformed : List ℤ → List ℤ → ℕ → Type 0
Transformed rows out n = (x y : ℕ) → x < n → y < 4 → value_in out x y ≡ transform4 (λ u. value_in rows u x) y

-- whether basis function 4 v + u is positive at pixel 4 y + x: where both its factors are, or neither is
unfoldable pub positive_at : (function pixel : ℕ) → Bool
positive_at function pixel = cond (positive (function % 4) (pixel % 4)) (positive (function / 4) (pixel / 4)) (not (positive (function / 4) (pixel / 4)))

-- the number of steps that is nearest to z
unfoldable pub nearest : (step : ℕ) → ℤ → ℤ
nearest step z = int_div_euclid (z +ℤ pos (step / 2)) (pos step)

-- a block's source less its prediction
abbrev pub difference : (prediction source : List ℕ) → ℕ → ℕ → ℤ
difference prediction source x y = pos (pixel_in source x y) -ℤ pos (pixel_in prediction x y)

-- each level is how much of its basis function the difference has, in steps
abbrev pub Nearest : (step : ℕ) → (levels : List ℤ) → (prediction source : List ℕ) → Type 0
Nearest step levels prediction source = (u v : ℕ) → u < 4 → v < 4 → value_in levels u v ≡ nearest step (inverse_transform (difference prediction source) u v)

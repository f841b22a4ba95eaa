-- What a block promises. Each is a statement, and a function's contract asks for its proof.
use Rattle.std.specs.Prelude.{◌≡◌, ℕ, ◌/◌, ◌<◌, ◌≤◌, List, length, ℤ, pos, slice_index, slice_index_or, unsigned_abs}
use Rattle.block.specs.Transform.{distance, pixel_in, reconstructed}

-- every level is at most n, but for its sign
abbrev pub Within : ℕ → List ℤ → Type 0
Within n levels = (i : ℕ) → i < 16 → unsigned_abs (slice_index_or levels i (pos 0)) ≤ n

-- levels bring a predicted block within half a step of its source, at every pixel
abbrev pub Close : (step : ℕ) → (levels : List ℤ) → (prediction source : List ℕ) → Type 0
Close step levels prediction source =
    (x y : ℕ) → x < 4 → y < 4 → distance (reconstructed step levels (pixel_in prediction x y) x y) (pixel_in source x y) ≤ step / 2

-- WHATEVER A BLOCK IS PREDICTED FROM, THERE ARE LEVELS THAT BRING IT WITHIN HALF A STEP OF ITS SOURCE:
-- the transform is its own inverse up to 16, so coefficients rounded to the nearest step err by half a step each,
-- and sixteen such errors over 16 are half a step again.
abbrev pub LevelsSuffice : Type 0
LevelsSuffice =
    (step : ℕ) (prediction source : List ℕ) → 1 ≤ step → ((i : ℕ) → (slice_index prediction i < 256) × (slice_index source i < 256)) →
    (levels : List ℤ) × (length levels ≡ 16) × Within 4080 levels × Close step levels prediction source

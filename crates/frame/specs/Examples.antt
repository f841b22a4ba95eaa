-- Worked examples: what the definitions come to on a few inputs, as docs/FORMAT.md has them. Assumes nothing: these are definitions.
use Rattle.std.specs.Prelude.{◌≡◌, ℕ, false, List, [], ◌∷◌, map, replicate, ℤ, pos, negsuc, slice_set}
use Rattle.block.specs.Syntax.{no_levels}
use Rattle.block.specs.Transform.{reconstructed}
use Rattle.block.specs.declared.block.Prediction.TheVariants.{Motion}
use Rattle.frame.specs.Promise.{Example}

-- one more of bytes that mean a block without levels in a frame of one block
abbrev pub more_examples : List Example
more_examples =
    record { key = false; bytes = 197 ∷ 128 ∷ []; prediction = Motion (record { dx = pos 1; dy = negsuc 1 }) } ∷ []

-- with a step of 8 this level, where all others are 0, makes these four rows of one prediction
pub record DrawnExample : Type 0 where
  pub index : ℕ
  pub level : ℤ
  pub prediction : ℕ
  pub rows : List (List ℕ)

abbrev pub drawn_examples : List DrawnExample
drawn_examples =
    record { index = 0; level = pos 3; prediction = 128; rows = replicate 4 (replicate 4 130) } ∷
    record { index = 0; level = pos 3; prediction = 254; rows = replicate 4 (replicate 4 255) } ∷
    record { index = 1; level = negsuc 1; prediction = 128; rows = replicate 4 (127 ∷ 129 ∷ 127 ∷ 129 ∷ []) } ∷
    record { index = 4; level = pos 5; prediction = 128; rows = replicate 4 131 ∷ replicate 4 126 ∷ replicate 4 131 ∷ replicate 4 126 ∷ [] } ∷
    record {
      index = 5;
      level = pos 7;
      prediction = 250;
      rows = (254 ∷ 247 ∷ 254 ∷ 247 ∷ []) ∷ (247 ∷ 254 ∷ 247 ∷ 254 ∷ []) ∷ (254 ∷ 247 ∷ 254 ∷ 247 ∷ []) ∷ (247 ∷ 254 ∷ 247 ∷ 254 ∷ []) ∷ [];
    } ∷ []

abbrev pub drawn_row : DrawnExample → (y : ℕ) → List ℕ
drawn_row e y = map (λ x. reconstructed 8 (slice_set no_levels e.index e.level) e.prediction x y) (0 ∷ 1 ∷ 2 ∷ 3 ∷ [])

abbrev pub Drawn : DrawnExample → Type 0
Drawn e = map (drawn_row e) (0 ∷ 1 ∷ 2 ∷ 3 ∷ []) ≡ e.rows

abbrev pub All : {A : Type 0} → (A → Type 0) → List A → Type 0
All holds [] = Unit {0}
All holds (e ∷ es) = holds e × All holds es

-- The worst pixel of a picture. Assumes nothing: these are definitions.
use Rattle.std.specs.Prelude.{◌≡◌, ℕ, ◌<◌, ◌≤◌, ◌⊎◌, List, length, slice_index}
use Rattle.block.specs.Transform.{distance}

-- no pixel is further from the source's than so much, and some is so far, unless all are equal
pub record Worst (picture source : List ℕ) (worst : ℕ) : Type 0 where
  pub most : (i : ℕ) → i < length picture → i < length source → distance (slice_index picture i) (slice_index source i) ≤ worst
  pub some : (worst ≡ 0) ⊎ ((i : ℕ) × (i < length picture) × (i < length source) × (distance (slice_index picture i) (slice_index source i) ≡ worst))

-- Coefficients rounded to the nearest step are levels enough: they are small, and they bring every pixel within half a step.
use Rattle.std.proofs.Common.{◌≡◌, ℕ, ◌+◌, ◌*◌, ◌/◌, ◌%◌, ◌<◌, ◌≤◌, List, map, get_or, ℤ, pos, nat_abs, ap, ◌∙◌, arith}
use Rattle.std.proofs.lemmas.List.FromFn.{length-map-range_with_len, get_or-map-range_with_len}
use Rattle.std.proofs.lemmas.Int.{ints}
use Rattle.std.specs.List.{range_with_len}
use Rattle.block.specs.Transform.{inverse_transform}
use Rattle.block.specs.Stages.{Nearest, difference, nearest}
use Rattle.block.specs.Promise.{Close, LevelsSuffice, Within}
use Rattle.block.proofs.Near.{levels_close, nearest_near, nearest_small, transform_small}

module _ (step : ℕ) (levels : List ℤ) (prediction source : List ℕ) (least : 1 ≤ step) (bytes : (i : ℕ) → (get_or prediction i 0 < 256) × (get_or source i 0 < 256)) (is : Nearest step levels prediction source) where
  -- a difference is at most 255, so a sum of sixteen is at most 4080
  pub nearest_within : Within 4080 levels
  nearest_within i h =
      let small = nearest_small step 4080 (inverse_transform (difference prediction source) (i % 4) (i / 4)) least
      (transform_small 255 (difference prediction source) (i % 4) (i / 4) (λ x y hx hy. omega (arith, ints, bytes (4 * y + x)))) in
      let place : 4 * (i / 4) + i % 4 ≡ i = omega arith in
      omega (arith, ap nat_abs (is (i % 4) (i / 4) (omega arith) (omega arith)), ap (λ k. nat_abs (get_or levels k (pos 0))) place)

  pub nearest_close : Close step levels prediction source
  nearest_close x y hx hy =
      levels_close step levels prediction source
      (λ u v hu hv. rw (is u v hu hv) (nearest_near step (inverse_transform (difference prediction source) u v) least)) x y hx hy (bytes (4 * y + x)).1

pub levels_suffice : LevelsSuffice
levels_suffice step prediction source least bytes =
    let coefficient : ℕ → ℤ = λ i. nearest step (inverse_transform (difference prediction source) (i % 4) (i / 4)) in
    let levels = map coefficient (range_with_len 0 16) in
    let is : Nearest step levels prediction source = λ u v hu hv.
    let across : (4 * v + u) % 4 ≡ u = omega arith in
    let down : (4 * v + u) / 4 ≡ v = omega arith in
    get_or-map-range_with_len coefficient 0 16 (4 * v + u) (4 * v + u) (pos 0) (omega arith) (omega arith) ∙ rw (across, down) in
    (levels, length-map-range_with_len coefficient 0 16, nearest_within step levels prediction source least bytes is, nearest_close step levels prediction source least bytes is)

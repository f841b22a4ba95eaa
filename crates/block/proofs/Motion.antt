-- Moved blocks: when one stays within the picture, where it then is, and where its pixels are.
use Rattle.std.proofs.Common.{◌≡◌, ℕ, ◌+◌, ◌*◌, ◌<◌, Bool, true, false, cond, not, replicate, ℤ, pos, negsuc, ◌+ℤ◌, nat_abs, refl, ap, add-mul, arith}
use lib.Signed.{lt_z}
use Rattle.std.proofs.lemmas.List.{get_or-replicate}
use Rattle.std.proofs.lemmas.Int.{ints}
use Rattle.std.proofs.lemmas.Bool.{and_right}
use Rattle.std.proofs.lemmas.Bool.Decides.{nat_tests}
use Rattle.block.specs.Picture.{Picture}
use Rattle.block.specs.Prediction.{moved, predictable, predicted, stays_within}
use Rattle.block.specs.Transform.{pixel_in}
use Rattle.block.specs.declared.block.MotionVector.{MotionVector}
use Rattle.block.specs.declared.block.PlaneSize.{PlaneSize}
use Rattle.block.specs.declared.block.Prediction.{Prediction}
use Rattle.block.specs.declared.block.Prediction.TheVariants.{Flat, Motion}

-- a block that lies within the picture can only reach over the edge that it is moved towards
abbrev pub reaches_over : (end : ℕ) (start d : ℤ) → Bool
reaches_over end start d = cond (lt_z d (pos 0)) (lt_z start (pos 0)) (lt_z (pos end) (start +ℤ pos 4))

pub stays_unless_over : (end n : ℕ) (d : ℤ) → stays_within end n d ≡ not (reaches_over end (pos n +ℤ d) d)
unfolding stays_within
stays_unless_over end n (pos d) = grind (arith, nat_tests)
stays_unless_over end n (negsuc d) = grind (arith, ints, nat_tests)

pub moved_is : (end n : ℕ) (d start : ℤ) → stays_within end n d ≡ true → start ≡ pos n +ℤ d → nat_abs start ≡ moved n d
unfolding stays_within moved
moved_is end n (pos d) start stays is = ap nat_abs is
moved_is end n (negsuc d) start stays is = grind (arith, ints, nat_tests)

pub flat_pixels :
    (size : PlaneSize) (left top : ℕ) (p : Prediction) (v : ℕ) (reference : Picture) → p ≡ Flat v →
    (predictable size left top p ≡ true) × ((x y : ℕ) → x < 4 → y < 4 → pixel_in (replicate 16 v) x y ≡ predicted reference left top p x y)
unfolding predictable predicted
flat_pixels size left top p v reference is = rw is (refl, λ x y h k. get_or-replicate 16 (4 * y + x) v 0 (omega arith))

-- the prediction by a motion vector, once it is known whether the block stays within each edge
module _ (size : PlaneSize) (left top : ℕ) (p : Prediction) (m : MotionVector) (is : p ≡ Motion m) where
  pub refused_across : stays_within size.width left m.dx ≡ false → predictable size left top p ≡ false
  unfolding predictable
  refused_across over = rw (is, over)

  pub refused_down : stays_within size.height top m.dy ≡ false → predictable size left top p ≡ false
  unfolding predictable
  refused_down over = rw is (and_right _ _ over)

  pub stays_inside :
      stays_within size.width left m.dx ≡ true → stays_within size.height top m.dy ≡ true → predictable size left top p ≡ true
  unfolding predictable
  stays_inside across down = rw (is, across, down)

  pub moved_pixel :
      (reference : Picture) (column row x y : ℕ) → column ≡ moved left m.dx → row ≡ moved top m.dy →
      reference (column + x) (row + y) ≡ predicted reference left top p x y
  unfolding predicted
  moved_pixel reference column row x y column-is row_is = rw (is, column-is, row_is)

-- where a pixel of a block is, from the start of its row
pub index_from_start : (width column row x y start : ℕ) → start ≡ (row * width + column) + y * width → start + x ≡ (row + y) * width + (column + x)
index_from_start width column row x y start is = omega (arith, add-mul row y width)

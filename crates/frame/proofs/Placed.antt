-- A block at its place among a frame's blocks, and its pixels in the picture.
use Rattle.std.proofs.Common.{◌≡◌, ℕ, ◌+◌, ◌*◌, ◌/◌, ◌%◌, ◌<◌, Bool, true, false, cond, eqb, List, get_or, sym, refl, ◌∙◌, mul_comm, arith}
use Rattle.std.proofs.lemmas.Nat.{mul-add-lt, mod-mul-add, div-mul-add}
use Rattle.std.proofs.lemmas.Bool.{eqb-true}
use Rattle.block.specs.Picture.{Picture}
use Rattle.block.specs.Prediction.{predictable, predicted}
use Rattle.block.specs.Transform.{pixel_in, reconstructed}
use Rattle.block.specs.declared.block.Block.{Block}
use Rattle.frame.specs.Frame.{Format, block_count, block_predictable, picture_of, plane_size}
use Rattle.frame.specs.Decoding.{BlockPut}

pub place_below : (f : Format) (row column : ℕ) → row < f.down → column < f.across → row * f.across + column < block_count f
place_below f row column rl cl = omega (arith, mul-add-lt row f.across column f.down rl cl, mul_comm f.across f.down)

module _ (f : Format) (blocks : ℕ → Block) (row column : ℕ) (cl : column < f.across) (b : Block) (is : blocks (row * f.across + column) ≡ b) where
  pub predictable_is : block_predictable f blocks (row * f.across + column) ≡ predictable (plane_size f) (4 * column) (4 * row) b.prediction
  predictable_is = rw (mod-mul-add row f.across column cl, div-mul-add row f.across column cl, is)

  pub pixel_is : (reference : Picture) (x y : ℕ) → y < 4 → x / 4 ≡ column →
      picture_of f reference blocks x (4 * row + y)
      ≡ reconstructed f.step b.levels (predicted reference (4 * column) (4 * row) b.prediction (x % 4) y) (x % 4) y
  unfolding picture_of
  pixel_is reference x y yl h =
      let d : (4 * row + y) / 4 ≡ row = omega arith in
      let m : (4 * row + y) % 4 ≡ y = omega arith in
      rw (d, m, h, is)

  -- a block whose pixels are put into its column of the row of blocks is drawn there, and the rest is as it was
  pub drawn : (reference : Picture) (pixels old new : List ℕ) →
      ((x y : ℕ) → x < 4 → y < 4 → pixel_in pixels x y ≡ reconstructed f.step b.levels (predicted reference (4 * column) (4 * row) b.prediction x y) x y) →
      BlockPut (4 * f.across) column pixels old new →
      (x y : ℕ) → x < 4 * f.across → y < 4 →
      get_or new (y * (4 * f.across) + x) 0 ≡ cond (eqb (x / 4) column) (picture_of f reference blocks x (4 * row + y)) (get_or old (y * (4 * f.across) + x) 0)
  drawn reference pixels old new shown put x y xl yl = put x y xl yl ∙ go (eqb (x / 4) column) refl
    where
      go : (t : Bool) → eqb (x / 4) column ≡ t →
          cond t (pixel_in pixels (x % 4) y) (get_or old (y * (4 * f.across) + x) 0)
          ≡ cond t (picture_of f reference blocks x (4 * row + y)) (get_or old (y * (4 * f.across) + x) 0)
      go true h = shown (x % 4) y (omega arith) yl ∙ sym (pixel_is reference x y yl (eqb-true (x / 4) column h))
      go false h = refl

-- A valid frame's blocks are predicted from pixels within the reference picture's edges.
use Rattle.std.proofs.Common.{◌≡◌, ℕ, ◌+◌, ◌*◌, ◌/◌, ◌%◌, ◌<◌, ◌≤◌, true, ℤ, pos, negsuc, refl, ap, arith}
use Rattle.std.proofs.lemmas.Bool.{and_parts, leb-true}
use Rattle.block.specs.Picture.{Picture}
use Rattle.block.specs.Prediction.{moved, predictable, predicted, stays_within}
use Rattle.block.specs.Transform.{reconstructed}
use Rattle.block.specs.declared.block.Prediction.{Prediction}
use Rattle.block.specs.declared.block.Prediction.TheVariants.{Flat, Motion}
use Rattle.frame.specs.Frame.{Format, Frame, block_count, block_of_pixel, block_predictable, frame_block, picture_of, plane_size, shows, valid}
use Rattle.frame.specs.Promise.{WithinEdges}
use Rattle.frame.proofs.Blocks.{every_holds, pixel_block_below, pixel_block_column, pixel_block_row}

abbrev Same : Format → Picture → Picture → Type 0
Same f a b = (x y : ℕ) → x < 4 * f.across → y < 4 * f.down → a x y ≡ b x y

moved_below : (end n : ℕ) (d : ℤ) (x : ℕ) → stays_within end n d ≡ true → x < 4 → n + 4 ≤ end → moved n d + x < end
unfolding stays_within moved
moved_below end n (pos d) x e l le = omega (arith, leb-true (n + d + 4) end e)
moved_below end n (negsuc d) x e l le = omega arith

predicted_same : (f : Format) (a b : Picture) → Same f a b → (left top : ℕ) (p : Prediction)
    → left + 4 ≤ 4 * f.across → top + 4 ≤ 4 * f.down → predictable (plane_size f) left top p ≡ true
    → (x y : ℕ) → x < 4 → y < 4 → predicted a left top p x y ≡ predicted b left top p x y
unfolding predictable predicted
predicted_same f a b same left top (Flat v) ll tl e x y xl yl = refl
predicted_same f a b same left top (Motion m) ll tl e x y xl yl =
    let w = and_parts (stays_within (4 * f.across) left m.dx) (stays_within (4 * f.down) top m.dy) e in
    same (moved left m.dx + x) (moved top m.dy + y)
    (moved_below (4 * f.across) left m.dx x w.0 xl ll) (moved_below (4 * f.down) top m.dy y w.1 yl tl)

-- the block of a pixel is where the pixel is
pixel_predictable : (f : Format) (frame : Frame) → valid f frame ≡ true → (x y : ℕ) → x < 4 * f.across → y < 4 * f.down
    → predictable (plane_size f) (4 * (x / 4)) (4 * (y / 4)) (frame_block frame (block_of_pixel f x y)).prediction ≡ true
unfolding valid
pixel_predictable f frame e x y xl yl =
    let h = every_holds (block_count f) (block_predictable f (frame_block frame)) e (block_of_pixel f x y) (pixel_block_below f x y xl yl) in
    rw (pixel_block_column f x y xl, pixel_block_row f x y xl) at h

pub within_edges : WithinEdges
unfolding shows picture_of
within_edges f frame a b e same x y xl yl =
    let n : ℕ = block_of_pixel f x y in
    ap (λ p. reconstructed f.step (frame_block frame n).levels p (x % 4) (y % 4))
    (predicted_same f a b same (4 * (x / 4)) (4 * (y / 4)) (frame_block frame n).prediction (omega arith) (omega arith)
    (pixel_predictable f frame e x y xl yl) (x % 4) (y % 4) (omega arith) (omega arith))

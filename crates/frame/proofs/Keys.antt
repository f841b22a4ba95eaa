-- A key frame's blocks are flat, so its picture needs no reference, and none of them reaches over an edge.
use Rattle.std.proofs.Common.{◌≡◌, ℕ, ◌*◌, ◌/◌, ◌%◌, Bool, true, List, None, Ok, Err, Result, refl, ap, subst, inl, arith}
use mathlib.Core.Path.{fun_ext}
use Rattle.range_coder.specs.Decisions.{ReaderState, start_reader}
use Rattle.block.specs.Picture.{Picture, picture_in}
use Rattle.block.specs.Prediction.{predictable, predicted}
use Rattle.block.specs.Syntax.{read_block, read_prediction, read_flat}
use Rattle.block.specs.Transform.{reconstructed}
use Rattle.block.specs.declared.block.PlaneSize.{PlaneSize}
use Rattle.block.specs.declared.block.Prediction.{Prediction}
use Rattle.block.specs.declared.block.Prediction.TheVariants.{Flat}
use Rattle.frame.specs.Frame.{Format, Frame, Holds, block_at, block_count, block_left, block_of_pixel, block_predictable, block_top, frame_block, picture_of, plane_size, shows, valid}
use Rattle.frame.specs.Promise.{KeyAlone, KeyValid}
use Rattle.frame.specs.Show.{DecodeSays, ShowSays}
use Rattle.frame.specs.declared.show_error.ShowError.{ShowError}
use Rattle.frame.proofs.Blocks.{every_from}

abbrev IsFlat : Prediction → Type 0
IsFlat p = (v : ℕ) × (p ≡ Flat v)

key_flat : (key : Bool) (r : ReaderState) (n : ℕ) → key ≡ true → IsFlat (block_at key r n).prediction
unfolding block_at read_block read_prediction read_flat
key_flat key r n e = rw e (_, refl)

flat_predicted : (a b : Picture) (left top : ℕ) (p : Prediction) (x y : ℕ) → IsFlat p → predicted a left top p x y ≡ predicted b left top p x y
unfolding predicted
flat_predicted a b left top p x y flat = rw flat.1

flat_predictable : (size : PlaneSize) (left top : ℕ) (p : Prediction) → IsFlat p → predictable size left top p ≡ true
unfolding predictable
flat_predictable size left top p flat = rw flat.1

pub key_alone : KeyAlone
unfolding shows picture_of
key_alone f frame a b e = fun_ext (λ x. fun_ext (λ y.
    let n : ℕ = block_of_pixel f x y in
    ap (λ p. reconstructed f.step (frame_block frame n).levels p (x % 4) (y % 4))
    (flat_predicted a b (4 * (x / 4)) (4 * (y / 4)) (frame_block frame n).prediction (x % 4) (y % 4)
    (key_flat frame.header.key (start_reader frame.bits) n e))))

pub key_valid : KeyValid
unfolding valid
key_valid f frame e = every_from (block_count f) (block_predictable f (frame_block frame)) (λ n _.
    flat_predictable (plane_size f) (block_left f n) (block_top f n) (frame_block frame n).prediction
    (key_flat frame.header.key (start_reader frame.bits) n e))

-- so it is shown whatever it is decoded beside
pub key_shown : (f : Format) (frame : Frame) (beside reference output output₁ : List ℕ) (r : Result (Unit {0}) ShowError) → frame.header.key ≡ true →
    DecodeSays f frame beside r output₁ → ShowSays None f frame reference output r output₁
key_shown f frame beside reference output output₁ (Ok u) e h =
    inl (refl, (h.0, subst (λ picture. Holds f picture output₁) (key_alone f frame (picture_in (4 * f.across) beside) (picture_in (4 * f.across) reference) e) h.1))
key_shown f frame beside reference output output₁ (Err x) e h =
    absurd (let v = key_valid f frame e in let z : ◌≡◌ {A = ℕ} 0 1 = cc in let y : ⊥ = omega arith in y)

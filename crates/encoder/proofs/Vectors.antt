-- A vector that stays within the edges can be said.
use Rattle.std.proofs.Common.{◌≡◌, ℕ, ◌<◌, ◌≤◌, true, false, ℤ, pos, negsuc, nat_abs, refl, arith}
use Rattle.std.proofs.lemmas.Bool.{and_parts, leb-true}
use Rattle.block.specs.Prediction.{predictable, stays_within}
use Rattle.block.specs.Syntax.{SayablePrediction}
use Rattle.block.specs.declared.block.MotionVector.{MotionVector}
use Rattle.block.specs.declared.block.PlaneSize.{PlaneSize}
use Rattle.block.specs.declared.block.Prediction.TheVariants.{Motion}

within_small : (end n : ℕ) (z : ℤ) → end < 65536 → n < 256 → stays_within end n z ≡ true → nat_abs z ≤ 65534
unfolding stays_within
within_small end n (pos d) h l e = omega (arith, leb-true _ end e)
within_small end n (negsuc d) h l e = omega (arith, leb-true _ n e)

pub vector_sayable : (size : PlaneSize) (left top : ℕ) (m : MotionVector) → size.width < 65536 → size.height < 65536 → left < 256 → top < 256 →
    predictable size left top (Motion m) ≡ true → SayablePrediction false (Motion m)
unfolding predictable
vector_sayable size left top m wl hl ll tl e =
    let w = and_parts _ _ e in
    (refl, within_small size.width left m.dx wl ll w.0, within_small size.height top m.dy hl tl w.1)

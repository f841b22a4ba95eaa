-- A BLOCK THAT WAS SAID IS READ BACK: first its prediction and then its levels, symbol by symbol.
use Rattle.std.proofs.Common.{◌≡◌, ℕ, zero, suc, ◌<◌, ◌≤◌, Bool, true, false, cond, List, [], ◌∷◌, ◌++◌, length, replicate, ℤ, pos, negsuc, nat_abs, sym, refl, ap}
use Rattle.range_coder.proofs.Decisions.{gives_front, gives_back, after_append}
use Rattle.range_coder.specs.Decisions.{ReaderState, Read, read_adaptive, Decision, adaptive, Gives, after}
use Rattle.symbols.specs.Class.{first_context}
use Rattle.symbols.specs.declared.class.NumberClass.TheVariants.{MotionX, MotionY}
use Rattle.symbols.specs.Promise.{largest, Sayable}
use Rattle.symbols.specs.Saying.{bits_decisions, signed_decisions, levels_decisions}
use Rattle.symbols.proofs.ReadBack.{bits_read_back, signed_read_back, levels_read_back}
use Rattle.block.specs.Syntax.{BlockReadBack, SayablePrediction, all_zero, block_decisions, is_zero, prediction_decisions, read_block, read_flat, read_motion, read_prediction, read_residual, residual_decisions}
use Rattle.block.specs.declared.block.MotionVector.{MotionVector}
use Rattle.block.specs.declared.block.Prediction.{Prediction}
use Rattle.block.specs.declared.block.Prediction.TheVariants.{Flat, Motion}

flat_read_back :
    (v : ℕ) (r : ReaderState) → v < 256 → Gives r (bits_decisions 8 v) →
    read_flat r ≡ record { value = Flat v; next = after r (bits_decisions 8 v) }
unfolding read_flat
flat_read_back v r small gives =
    ap (λ (read : Read ℕ). record { value = Flat read.value; next = read.next }) (bits_read_back 8 v r small gives)

abbrev motion_decisions : MotionVector → List Decision
motion_decisions m = signed_decisions (first_context MotionX) m.dx ++ signed_decisions (first_context MotionY) m.dy

motion_read_back :
    (m : MotionVector) (r : ReaderState) → nat_abs m.dx ≤ largest → nat_abs m.dy ≤ largest → Gives r (motion_decisions m) →
    read_motion r ≡ record { value = Motion m; next = after r (motion_decisions m) }
unfolding read_motion
motion_read_back m r small-x small-y gives =
    let xs : List Decision = signed_decisions (first_context MotionX) m.dx in
    let ys : List Decision = signed_decisions (first_context MotionY) m.dy in
    rw (
      signed_read_back (first_context MotionX) m.dx r small-x (gives_front r xs ys gives),
      signed_read_back (first_context MotionY) m.dy (after r xs) small-y (gives_back r xs ys gives),
      after_append r xs ys,
    )

prediction_read_back :
    (key : Bool) (p : Prediction) (r : ReaderState) → SayablePrediction key p → Gives r (prediction_decisions key p) →
    read_prediction key r ≡ record { value = p; next = after r (prediction_decisions key p) }
unfolding read_prediction prediction_decisions after
prediction_read_back true (Flat v) r small gives = flat_read_back v r small gives
prediction_read_back false (Flat v) r small gives = rw gives.0 (flat_read_back v (read_adaptive 0 r).next small gives.1)
prediction_read_back true (Motion m) r small gives = cc small.0
prediction_read_back false (Motion m) r small gives =
    rw gives.0 (motion_read_back m (read_adaptive 0 r).next small.1 small.2 gives.1)

zero_levels : (zs : List ℤ) → all_zero zs ≡ true → zs ≡ replicate (length zs) (pos 0)
unfolding all_zero is_zero
zero_levels [] all = refl
zero_levels (pos zero ∷ zs) all = ap (λ t. pos 0 ∷ t) (zero_levels zs all)
zero_levels (pos (suc n) ∷ zs) all = cc
zero_levels (negsuc n ∷ zs) all = cc

residual_read_back_by :
    (none : Bool) (zs : List ℤ) (r : ReaderState) → all_zero zs ≡ none → length zs ≡ 16 → Sayable zs →
    Gives r (cond none (adaptive 1 false ∷ []) (adaptive 1 true ∷ levels_decisions 0 zs)) →
    read_residual r ≡ record { value = zs; next = after r (cond none (adaptive 1 false ∷ []) (adaptive 1 true ∷ levels_decisions 0 zs)) }
unfolding read_residual after
residual_read_back_by true zs r is sixteen small gives =
    rw gives.0 (ap (λ (levels : List ℤ). record { value = levels; next = (read_adaptive 1 r).next }) (sym (rw sixteen at (zero_levels zs is))))
residual_read_back_by false zs r is sixteen small gives =
    rw gives.0 (rw sixteen at (levels_read_back 0 zs (read_adaptive 1 r).next small gives.1))

residual_read_back :
    (zs : List ℤ) (r : ReaderState) → length zs ≡ 16 → Sayable zs → Gives r (residual_decisions zs) →
    read_residual r ≡ record { value = zs; next = after r (residual_decisions zs) }
unfolding residual_decisions
residual_read_back zs r = residual_read_back_by (all_zero zs) zs r refl

pub block_read_back : BlockReadBack
unfolding read_block block_decisions
block_read_back key b r sayable gives =
    let ps : List Decision = prediction_decisions key b.prediction in
    let ls : List Decision = residual_decisions b.levels in
    rw (
      prediction_read_back key b.prediction r sayable.prediction (gives_front r ps ls gives),
      residual_read_back b.levels (after r ps) sayable.sixteen sayable.levels (gives_back r ps ls gives),
      after_append r ps ls,
    )

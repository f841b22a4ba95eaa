-- What a check that passed says of what it checked.
use Rattle.std.proofs.Common.{◌≡◌, ℕ, Bool, true, false, eqb, List, length, None, refl, arith}
use Rattle.std.proofs.lemmas.Bool.{eqb-true}
use Rattle.frame.specs.Rejection.{or_else, unless, planes_rejection}
use Rattle.frame.specs.declared.rejection.Rejection.TheVariants.{PictureLength}
use Rattle.frame.specs.declared.rejection.Plane.TheVariants.{Reference, Output}

-- pictures that are not rejected are as long as they should be
pub planes_fit : (pixels : ℕ) (reference output : List ℕ) → planes_rejection pixels reference output ≡ None → (length reference ≡ pixels) × (length output ≡ pixels)
planes_fit pixels reference output = go (eqb (length reference) pixels) refl (eqb (length output) pixels) refl
  where
    go : (a : Bool) → eqb (length reference) pixels ≡ a → (b : Bool) → eqb (length output) pixels ≡ b →
        or_else (unless a (PictureLength Reference)) (unless b (PictureLength Output)) ≡ None → (length reference ≡ pixels) × (length output ≡ pixels)
    go true e true f h = (eqb-true _ _ e, eqb-true _ _ f)
    go true e false f h = absurd (let z : ◌≡◌ {A = ℕ} 0 1 = cc in let y : ⊥ = omega arith in y)
    go false e b f h = absurd (let z : ◌≡◌ {A = ℕ} 0 1 = cc in let y : ⊥ = omega arith in y)

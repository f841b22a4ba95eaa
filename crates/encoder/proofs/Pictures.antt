-- Pictures that are not rejected have the length that they should.
use Rattle.std.proofs.Common.{◌≡◌, ℕ, eqb, List, length, Some, None, Option, refl, arith}
use Rattle.frame.specs.Rejection.{or_else, planes_rejection, unless}
use Rattle.frame.specs.declared.rejection.Rejection.{Rejection}
use Rattle.frame.specs.declared.rejection.Rejection.TheVariants.{SourceLength}
use Rattle.frame.proofs.Rejecting.{planes_fit}
use Rattle.encoder.specs.Code.{pictures_rejection}

-- where neither of two rejects, the first does not
first_none : (a b : Option Rejection) → or_else a b ≡ None → a ≡ None
first_none None b e = refl
first_none (Some x) b e = absurd (let z : ◌≡◌ {A = ℕ} 0 1 = cc in let f : ⊥ = omega arith in f)

pub pictures_fit : (pixels : ℕ) (source reference output : List ℕ) → pictures_rejection pixels source reference output ≡ None → length output ≡ pixels
pictures_fit pixels source reference output e =
    (planes_fit pixels reference output (first_none (planes_rejection pixels reference output) (unless (eqb (length source) pixels) (SourceLength (length source))) e)).1

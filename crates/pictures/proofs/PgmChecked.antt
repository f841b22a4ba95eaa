-- A picture is read as its header is, and then its pixels have to be there.
use Rattle.std.proofs.Common.{◌≡◌, ℕ, List, length, leb, Ok, Err, Result, refl}
use Rattle.pictures.specs.Faults.{required, then}
use Rattle.pictures.specs.Pgm.{pgm_header_of, pgm_of}
use Rattle.pictures.specs.declared.error.Fault.TheVariants.{CutShort}
use Rattle.pictures.specs.declared.error.PictureError.{PictureError}
use Rattle.pictures.specs.declared.forms.Pgm.{Pgm}

then_then : {A B C : Type 0} → (r : Result A PictureError) (f : A → Result B PictureError) (g : B → Result C PictureError) →
    then (then r f) g ≡ then r (λ x. then (f x) g)
then_then (Ok x) f g = refl
then_then (Err e) f g = refl

-- what is left to ask of a picture whose header is read
abbrev pub all_there : (bytes : List ℕ) → Pgm → Result Pgm PictureError
all_there bytes picture = then (required (leb picture.end (length bytes)) CutShort (length bytes)) λ _. Ok picture

pub header_then_pixels : (bytes : List ℕ) → then (pgm_header_of bytes) (all_there bytes) ≡ pgm_of bytes
header_then_pixels bytes = simp then_then

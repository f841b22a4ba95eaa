-- What is wrong, and at which byte. Assumes nothing: these are definitions.
use Rattle.std.specs.Prelude.{ℕ, Bool, true, false, Some, None, Ok, Err, Option, Result}
use Rattle.pictures.specs.declared.error.Fault.{Fault}
use Rattle.pictures.specs.declared.error.PictureError.{PictureError}

abbrev pub fault_at : {A : Type 0} → Fault → (position : ℕ) → Result A PictureError
fault_at fault position = Err (record { fault = fault; position = position })

-- one step after another, up to the first fault
abbrev pub then : {A B : Type 0} → Result A PictureError → (A → Result B PictureError) → Result B PictureError
then (Ok x) f = f x
then (Err e) f = Err e

abbrev pub or_fault : {A : Type 0} → Option A → Fault → (position : ℕ) → Result A PictureError
or_fault (Some x) fault position = Ok x
or_fault None fault position = fault_at fault position

abbrev pub required : Bool → Fault → (position : ℕ) → Result (Unit {0}) PictureError
required true fault position = Ok tt
required false fault position = fault_at fault position

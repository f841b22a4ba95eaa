-- What is rejected, in the order of the checks, with its code and its position. Assumes nothing: these are definitions.
use Rattle.std.specs.Prelude.{ℕ, ◌*◌, ◌^◌, Bool, true, false, ◌&&◌, List, length, Some, None, Option, ◌==◌, nat_le}
use Rattle.frame.specs.Frame.{Format, block_count}
use Rattle.frame.specs.declared.rejection.Rejection.{Rejection}
use Rattle.frame.specs.declared.rejection.Rejection.TheVariants.{BlockCount, StepRange, PictureLength, SourceLength, BufferTooShort, PacketCut, BadText}
use Rattle.frame.specs.declared.rejection.Extent.{Extent}
use Rattle.frame.specs.declared.rejection.Extent.TheVariants.{Across, Down, Total}
use Rattle.frame.specs.declared.rejection.Plane.{Plane}
use Rattle.frame.specs.declared.rejection.Plane.TheVariants.{Reference, Output}

abbrev pub code_of : Rejection → ℕ
code_of (BlockCount e) = 1
code_of StepRange = 2
code_of (PictureLength p) = 3
code_of (SourceLength n) = 4
code_of (BufferTooShort n) = 5
code_of (PacketCut n) = 6
code_of (BadText n) = 7

abbrev pub extent_position : Extent → ℕ
extent_position Across = 0
extent_position Down = 1
extent_position Total = 2

abbrev pub plane_position : Plane → ℕ
plane_position Reference = 0
plane_position Output = 1

abbrev pub position_of : Rejection → ℕ
position_of (BlockCount e) = extent_position e
position_of StepRange = 0
position_of (PictureLength p) = plane_position p
position_of (SourceLength n) = n
position_of (BufferTooShort n) = n
position_of (PacketCut n) = n
position_of (BadText n) = n

-- nothing where a test holds, else a rejection
abbrev pub unless : Bool → Rejection → Option Rejection
unless true e = None
unless false e = Some e

-- the first of two rejections
abbrev pub or_else : Option Rejection → Option Rejection → Option Rejection
or_else None second = second
or_else (Some e) second = Some e

abbrev pub few : ℕ → Bool
few n = nat_le 1 n && nat_le n 60

-- what a format can be rejected for
abbrev pub format_rejection : Format → Option Rejection
format_rejection f =
    or_else (unless (few f.across) (BlockCount Across))
    (or_else (unless (few f.down) (BlockCount Down))
    (or_else (unless (nat_le (block_count f) 224) (BlockCount Total))
    (unless (nat_le 1 f.step && nat_le f.step 64) StepRange)))

-- what a picture can be rejected for
abbrev pub plane_rejection : (pixels : ℕ) → Plane → (picture : List ℕ) → Option Rejection
plane_rejection pixels plane picture = unless (length picture == pixels) (PictureLength plane)

-- and what a reference picture and a place for a picture
abbrev pub planes_rejection : (pixels : ℕ) → (reference output : List ℕ) → Option Rejection
planes_rejection pixels reference output = or_else (plane_rejection pixels Reference reference) (plane_rejection pixels Output output)

abbrev pub show_rejection : Format → (reference output : List ℕ) → Option Rejection
show_rejection f reference output = or_else (format_rejection f) (planes_rejection (16 * block_count f) reference output)

-- a sequence number is at most 2^62
abbrev pub number_rejection : ℕ → Option Rejection
number_rejection number = unless (nat_le number (2 ^ 62)) (BadText 0)

-- What showing a frame answers, and what it leaves. Assumes nothing: these are definitions.
use Rattle.std.specs.Prelude.{◌≡◌, ℕ, ◌*◌, true, false, ◌⊎◌, List, IfOk, Some, None, Ok, Err, Option, Result}
use Rattle.std.specs.Result.{result_err}
use Rattle.bits.specs.Bits.{bits_of}
use Rattle.block.specs.Picture.{picture_in}
use Rattle.frame.specs.Frame.{Format, Frame, Packet, Holds, shows, valid}
use Rattle.frame.specs.Rejection.{format_rejection}
use Rattle.frame.specs.declared.format.Format as code
use Rattle.frame.specs.declared.header.VideoHeader.{VideoHeader}
use Rattle.frame.specs.declared.packet.Frame as lent
use Rattle.frame.specs.declared.packet.Packet as lent_packet
use Rattle.frame.specs.declared.rejection.Rejection.{Rejection}
use Rattle.frame.specs.declared.show_error.ShowError.{ShowError}
use Rattle.frame.specs.declared.show_error.ShowError.TheVariants.{Invalid, Rejected}

abbrev pub format_of : code.Format → Format
format_of f = record { across = f.across; down = f.down; step = f.step.value }

-- the format that a video's first line asks for
abbrev pub header_format : VideoHeader → Format
header_format h = record { across = h.across; down = h.down; step = h.step }

-- the frame that bytes are, and the packet
abbrev pub frame_of : lent.Frame → Frame
frame_of f = record { header = f.header; bits = bits_of f.bytes.now }

abbrev pub packet_of : lent_packet.Packet → Packet
packet_of p = record { number = p.number; frame = frame_of p.frame }

-- a frame is valid, and pixels hold the picture that it shows, made from the reference
abbrev pub ShownIn : Format → Frame → (reference pixels : List ℕ) → Type 0
ShownIn f frame reference pixels = (valid f frame ≡ true) × Holds f (shows f (picture_in (4 * f.across) reference) frame) pixels

-- that picture is left in the output; else nothing changes
abbrev pub ShowSays : Option Rejection → Format → Frame → (reference output : List ℕ) → Result (Unit {0}) ShowError → (output₁ : List ℕ) → Type 0
ShowSays (Some e) f frame reference output r output₁ = (r ≡ Err (Rejected e)) × (output₁ ≡ output)
ShowSays None f frame reference output r output₁ =
    ((r ≡ Ok tt) × ShownIn f frame reference output₁)
    ⊎ ((r ≡ Err Invalid) × (valid f frame ≡ false) × (output₁ ≡ output))

-- the same with the output spoiled where the frame is invalid
abbrev pub DecodeSays : Format → Frame → (reference : List ℕ) → Result (Unit {0}) ShowError → (output₁ : List ℕ) → Type 0
DecodeSays f frame reference (Ok u) output₁ = ShownIn f frame reference output₁
DecodeSays f frame reference (Err e) output₁ = (e ≡ Invalid) × (valid f frame ≡ false)

-- a format is made, unless it is rejected
abbrev pub FormatSays : Format → Result code.Format Rejection → Type 0
FormatSays f r = (result_err r ≡ format_rejection f) × IfOk r (λ g. format_of g ≡ f)

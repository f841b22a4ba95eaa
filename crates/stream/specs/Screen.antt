-- What a screen has been through, and what it then shows. Assumes nothing: these are definitions.
use Rattle.std.specs.Prelude.{◌≡◌, ℕ, zero, suc, ◌*◌, ◌/◌, ◌<◌, List, ◌∷◌, take, Some, None, Ok, Err, Option, Result}
use Rattle.block.specs.Picture.{Picture, black, picture_in}
use Rattle.frame.specs.Frame.{Format, Holds, Packet, block_count}
use Rattle.frame.specs.Show.{format_of}
use Rattle.frame.specs.declared.rejection.Rejection.{Rejection}
use Rattle.stream.specs.Promise.{Sent}
use Rattle.stream.specs.Receiver.{Stands, after_packets}
use Rattle.frame.specs.Video.{Follows, Near, Video, picture_after}
use Rattle.stream.specs.declared.screen.Screen.{Screen}

abbrev pub screen_format : Screen → Format
screen_format s = format_of s.format

-- the first of its pixels are the picture
abbrev pub screen_pixels : Screen → List ℕ
screen_pixels s = take (16 * block_count (screen_format s)) s.pixels

-- the packets that a screen has received, the latest first: it is what a receiver of them is
abbrev pub Received : Screen → List Packet → Type 0
Received s ps = Stands (screen_format s) s.receiver (screen_pixels s) (after_packets (screen_format s) ps)

-- a packet is one more that was received; where it is rejected nothing changes
abbrev pub ScreenSays : Option Rejection → Screen → Packet → Result (Unit {0}) Rejection → (s₁ : Screen) → Type 0
ScreenSays (Some e) s p answer s₁ = (answer ≡ Err e) × (s₁ ≡ s)
ScreenSays None s p answer s₁ =
    (answer ≡ Ok tt) × (s₁.format ≡ s.format) × ((ps : List Packet) → Received s ps → Received s₁ (p ∷ ps))

-- the number shown is the one before the expected one, if there is one
abbrev pub number_shown : (next : ℕ) → Option ℕ
number_shown zero = None
number_shown (suc n) = Some n

-- the video's picture with a number, or black
abbrev pub picture_shown : Format → Video → Option ℕ → Picture
picture_shown f video None = black
picture_shown f video (Some n) = picture_after f video (suc n)

-- whatever video's packets it received, its pixels are those of a picture of the video
abbrev pub ShowsVideo : Screen → (Video → Picture) → Type 0
ShowsVideo s picture =
    (video : Video) (ps : List Packet) → Received s ps → Sent video ps → Holds (screen_format s) (picture video) (screen_pixels s)

-- and where the video follows its sources within half a step, so do the pixels
abbrev pub FollowsSource : Screen → Type 0
FollowsSource s =
    (video : Video) (sources : ℕ → Picture) (n : ℕ) (ps : List Packet) (last : ℕ) →
    Follows (screen_format s) video sources n → Received s ps → Sent video ps → s.receiver.next ≡ suc last → last < n →
    Near (screen_format s) ((screen_format s).step / 2) (picture_in (4 * (screen_format s).across) (screen_pixels s)) (sources last)

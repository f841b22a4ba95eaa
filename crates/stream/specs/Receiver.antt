-- What a receiver makes of packets. Assumes nothing: these are definitions.
use Rattle.std.specs.Prelude.{◌≡◌, ℕ, suc, Bool, true, false, cond, ◌&&◌, ◌||◌, List, [], ◌∷◌, Some, None, Ok, Err, Option, Result, ◌==◌, nat_lt}
use Rattle.block.specs.Picture.{Picture, black}
use Rattle.frame.specs.Frame.{Format, Holds, Packet, shows, valid}
use Rattle.frame.specs.Rejection.{number_rejection, or_else, plane_rejection}
use Rattle.frame.specs.declared.rejection.Rejection.{Rejection}
use Rattle.frame.specs.declared.rejection.Plane.TheVariants.{Reference}
use Rattle.stream.specs.declared.receiver.Receiver.{Receiver}

-- what a receiver shows, whether it is sure of it, and the sequence number that it expects next
pub record ReceiverState : Type 0 where
  pub picture : Picture
  pub sure : Bool
  pub next : ℕ

-- a packet that is not late is wanted if it is a key frame, or if the receiver is sure and expects just this one
abbrev pub wanted : ReceiverState → Packet → Bool
wanted r p = p.frame.header.key || (r.sure && p.number == r.next)

-- a late packet is dropped; one that is wanted and valid is shown; any other leaves the picture, which the receiver is then not sure of
unfoldable pub received : Format → ReceiverState → Packet → ReceiverState
received f r p =
    cond (nat_lt p.number r.next) r
    (cond (valid f p.frame && wanted r p)
    (record { picture = shows f r.picture p.frame; sure = true; next = suc p.number })
    (record { picture = r.picture; sure = false; next = r.next }))

-- at first it is black, sure of nothing, and expects number 0
unfoldable pub start_receiver : ReceiverState
start_receiver = record { picture = black; sure = false; next = 0 }

-- after packets, the latest first
unfoldable pub after_packets : Format → List Packet → ReceiverState
after_packets f [] = start_receiver
after_packets f (p ∷ ps) = received f (after_packets f ps) p

-- WHAT THE CODE'S RECEIVER STANDS FOR

-- its marks beside a picture
abbrev pub marked : Receiver → Picture → ReceiverState
marked r picture = record { picture = picture; sure = r.sure; next = r.next }

-- its marks and a picture's pixels are those of a receiver
pub record Stands (f : Format) (r : Receiver) (pixels : List ℕ) (s : ReceiverState) : Type 0 where
  pub sure : r.sure ≡ s.sure
  pub next : r.next ≡ s.next
  pub picture : Holds f s.picture pixels

-- what a packet can be rejected for
abbrev pub receive_rejection : (pixels : ℕ) → (picture : List ℕ) → (number : ℕ) → Option Rejection
receive_rejection pixels picture number = or_else (plane_rejection pixels Reference picture) (number_rejection number)

-- whatever picture the pixels were of, they are then that of the receiver which has received the packet; where it is rejected nothing changes
abbrev pub ReceiveSays : Option Rejection → Format → Receiver → Packet → (pixels : List ℕ) → Result Receiver Rejection → (pixels₁ : List ℕ) → Type 0
ReceiveSays (Some e) f r p pixels answer pixels₁ = (answer ≡ Err e) × (pixels₁ ≡ pixels)
ReceiveSays None f r p pixels (Ok r₁) pixels₁ = (picture : Picture) → Holds f picture pixels → Stands f r₁ pixels₁ (received f (marked r picture) p)
ReceiveSays None f r p pixels (Err e) pixels₁ = ⊥

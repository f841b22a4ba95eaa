-- What a receiver promises, of every video and every sequence of packets. Each is a statement, and a function's contract asks for its proof.
use Rattle.std.specs.Prelude.{◌≡◌, ℕ, suc, ◌/◌, ◌<◌, ◌≤◌, true, false, List, [], ◌∷◌}
use Rattle.block.specs.Picture.{Picture}
use Rattle.frame.specs.Frame.{Format, Packet, valid}
use Rattle.frame.specs.Video.{Video, Near, Follows, picture_after}
use Rattle.stream.specs.Receiver.{ReceiverState, received, after_packets}

-- packets of a video: each has the frame with its number, in whatever order, however often, whichever are missing
pub data Sent (video : Video) : List Packet → Type 0 where
  none : Sent video []
  more : (p : Packet) (ps : List Packet) → p.frame ≡ video p.number → Sent video ps → Sent video (p ∷ ps)

-- WHAT THE RECEIVER IS SURE OF IS WHAT THE VIDEO SHOWS, PIXEL FOR PIXEL: it becomes sure by a key frame, which does not look
-- at the picture before, and stays so only by the very next frame, made from the very picture that the video has there.
abbrev pub SureIsTrue : Type 0
SureIsTrue =
    (f : Format) (video : Video) (ps : List Packet) → Sent video ps → (after_packets f ps).sure ≡ true →
    (after_packets f ps).picture ≡ picture_after f video (after_packets f ps).next

-- and then it has shown some frame, since it is sure of nothing at first
abbrev pub SureOfSome : Type 0
SureOfSome = (f : Format) (ps : List Packet) → (after_packets f ps).sure ≡ true → (n : ℕ) × ((after_packets f ps).next ≡ suc n)

-- whatever it shows, sure or not, is the video's picture with the last number that it showed, or black before: a packet that is
-- not shown leaves both the picture and the number
abbrev pub ShownIsTrue : Type 0
ShownIsTrue =
    (f : Format) (video : Video) (ps : List Packet) → Sent video ps →
    (after_packets f ps).picture ≡ picture_after f video (after_packets f ps).next

-- so what it shows at all is some earlier picture of the video, or black
abbrev pub AlwaysSome : Type 0
AlwaysSome =
    (f : Format) (video : Video) (ps : List Packet) → Sent video ps →
    (n : ℕ) × (n ≤ (after_packets f ps).next) × ((after_packets f ps).picture ≡ picture_after f video n)

-- a valid key frame that is not late makes it sure
abbrev pub Recovers : Type 0
Recovers =
    (f : Format) (r : ReceiverState) (p : Packet) → valid f p.frame ≡ true → p.frame.header.key ≡ true → r.next ≤ p.number →
    ((received f r p).sure ≡ true) × ((received f r p).next ≡ suc p.number)

-- valid packets in order keep it so
abbrev pub GoesOn : Type 0
GoesOn =
    (f : Format) (r : ReceiverState) (p : Packet) → valid f p.frame ≡ true → r.sure ≡ true → r.next ≡ p.number →
    ((received f r p).sure ≡ true) × ((received f r p).next ≡ suc p.number)

-- a late packet changes nothing
abbrev pub LateIgnored : Type 0
LateIgnored = (f : Format) (r : ReceiverState) (p : Packet) → p.number < r.next → received f r p ≡ r

-- only a picture that is shown moves the number expected next
abbrev pub NextMoves : Type 0
NextMoves = (f : Format) (r : ReceiverState) (p : Packet) → (received f r p).sure ≡ false → (received f r p).next ≡ r.next

-- FROM LENS TO EYE: where a video follows its sources within half a step, whatever the receiver is sure of does too
abbrev pub LensToEye : Type 0
LensToEye =
    (f : Format) (video : Video) (sources : ℕ → Picture) (n : ℕ) (ps : List Packet) (last : ℕ) →
    Follows f video sources n → Sent video ps → (after_packets f ps).sure ≡ true → (after_packets f ps).next ≡ suc last → last < n →
    Near f (f.step / 2) (after_packets f ps).picture (sources last)

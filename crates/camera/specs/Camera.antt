-- What the functions for C answer, and what they leave: what the parts beneath do, with the answer packed. Assumes nothing: these are definitions.
use Rattle.std.specs.Prelude.{◌≡◌, ℕ, ◌*◌, Bool, cond, List, Some, None, Ok, Err, Option, Result, nat_lt}
use Rattle.frame.specs.Frame.{Format, Packet, block_count}
use Rattle.frame.specs.Rejection.{format_rejection, or_else, show_rejection}
use Rattle.frame.specs.Show.{ShowSays}
use Rattle.frame.specs.declared.rejection.Rejection.{Rejection}
use Rattle.frame.specs.declared.show_error.ShowError.{ShowError}
use Rattle.frame.specs.declared.show_error.ShowError.TheVariants as shown
use Rattle.encoder.specs.Code.{CodeSays, code_rejection, frame_of, worst_case}
use Rattle.stream.specs.Receiver.{ReceiveSays, receive_rejection}
use Rattle.stream.specs.declared.receiver.Receiver.{Receiver}
use Rattle.camera.specs.Packed.{Answered, Packs}
use Rattle.camera.specs.declared.answer.Answer.TheVariants.{Length, Shown, Invalid, Sure, Unsure}
use Rattle.camera.specs.declared.receiver.CReceiver.{CReceiver}

-- a size in blocks and a step, as C gives them
abbrev pub format_in : (across down step : ℕ) → Format
format_in across down step = record { across = across; down = down; step = step }

-- a flag of C is set unless it is 0
abbrev pub is_set : ℕ → Bool
is_set flag = nat_lt 0 flag

abbrev pub worst_case_answer : Option Rejection → Format → Answered
worst_case_answer None f = Ok (Length (worst_case f))
worst_case_answer (Some e) f = Err e

abbrev pub code_answer : Result ℕ Rejection → Answered
code_answer (Ok n) = Ok (Length n)
code_answer (Err e) = Err e

abbrev pub show_answer : Result (Unit {0}) ShowError → Answered
show_answer (Ok u) = Ok Shown
show_answer (Err shown.Invalid) = Ok Invalid
show_answer (Err (shown.Rejected e)) = Err e

abbrev pub receive_answer : Result Receiver Rejection → Answered
receive_answer (Ok r) = Ok (cond r.sure Sure Unsure)
receive_answer (Err e) = Err e

-- the encoder coded a frame, or rejected it
pub record CodeAnswers (across down step : ℕ) (key : Bool) (source reference buffer output : List ℕ) (n : ℕ) (buffer₁ output₁ : List ℕ) : Type 0 where
  pub result : Result ℕ Rejection
  pub packs : Packs (code_answer result) n
  pub says : CodeSays (code_rejection (format_in across down step) source reference output) (format_in across down step) key source reference buffer output result buffer₁ output₁

-- a frame was shown, or is invalid, or was rejected
pub record ShowAnswers (across down step : ℕ) (key : Bool) (bytes reference output : List ℕ) (n : ℕ) (output₁ : List ℕ) : Type 0 where
  pub result : Result (Unit {0}) ShowError
  pub packs : Packs (show_answer result) n
  pub says : ShowSays (show_rejection (format_in across down step) reference output) (format_in across down step) (frame_of key bytes) reference output result output₁

-- a packet, as C gives it
abbrev pub packet_in : (number : ℕ) → (key : Bool) → (bytes : List ℕ) → Packet
packet_in number key bytes = record { number = number; frame = frame_of key bytes }

-- the receiver that C's numbers are
abbrev pub receiver_in : CReceiver → Receiver
receiver_in r = record { sure = is_set r.sure; next = r.next }

-- the receiver of a result is left in C's; where a packet is rejected that is as it was
abbrev pub Left : (before : CReceiver) → Result Receiver Rejection → (after : CReceiver) → Type 0
Left before (Ok r) after = receiver_in after ≡ r
Left before (Err e) after = after ≡ before

-- a format is rejected before a picture and a sequence number are
abbrev pub packet_rejection : Format → (picture : List ℕ) → (number : ℕ) → Option Rejection
packet_rejection f picture number = or_else (format_rejection f) (receive_rejection (16 * block_count f) picture number)

-- the receiver received a packet, or rejected it
pub record ReceiveAnswers (across down step : ℕ) (receiver : CReceiver) (packet : Packet) (picture : List ℕ) (n : ℕ) (receiver₁ : CReceiver) (picture₁ : List ℕ) : Type 0 where
  pub result : Result Receiver Rejection
  pub packs : Packs (receive_answer result) n
  pub left : Left receiver result receiver₁
  pub says : ReceiveSays (packet_rejection (format_in across down step) picture packet.number) (format_in across down step) (receiver_in receiver) packet picture result picture₁

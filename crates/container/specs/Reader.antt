-- A reader of a file in pieces, as a state machine over what it was fed. Assumes nothing: these are definitions.
use Rattle.std.specs.Prelude.{◌≡◌, ℕ, ◌+◌, ◌-◌, ◌^◌, ◌<◌, min, cond, List, ◌++◌, length, drop, Some, None, Ok, Err, vec_items, Option, Result, ◌==◌}
use Rattle.container.specs.Container.{Packet, contents, first_packet}
use Rattle.container.specs.declared.fault.Fault.{Fault}
use Rattle.container.specs.declared.fault.Fault.TheVariants.{Cut, Malformed}
use Rattle.container.specs.declared.packet.PacketAt.{PacketAt}
use Rattle.container.specs.declared.packet.PacketHead.{PacketHead}
use Rattle.container.specs.declared.reader.PacketReader.{PacketReader}
use Rattle.frame.specs.declared.rejection.Rejection.{Rejection}
use Rattle.frame.specs.declared.rejection.Rejection.TheVariants.{BadText, PacketCut}
use Rattle.std.specs.List.{between}

-- the bytes that were fed and not taken, and their position in the file, which stops at the largest number of 64 bits
pub record ReaderState : Type 0 where
  pub pending : List ℕ
  pub position : ℕ

abbrev pub fed : ReaderState → (piece : List ℕ) → ReaderState
fed s piece = record { pending = s.pending ++ piece; position = s.position }

-- the next packet; none yet if it is cut, since more may come
abbrev pub offered : ReaderState → Result PacketAt Fault → Result (Option Packet) Rejection
offered s (Ok p) = Ok (Some (contents s.pending p))
offered s (Err Cut) = Ok None
offered s (Err Malformed) = Err (BadText s.position)

abbrev pub next_packet : ReaderState → Result (Option Packet) Rejection
next_packet s = offered s (first_packet s.pending)

abbrev pub state_past : ReaderState → Result PacketAt Fault → ReaderState
state_past s (Ok p) = record { pending = drop p.end s.pending; position = min (s.position + p.end) (2 ^ 64 - 1) }
state_past s (Err e) = s

abbrev pub state_after : ReaderState → ReaderState
state_after s = state_past s (first_packet s.pending)

-- where the file ends, what is left is a packet that is cut
abbrev pub ending : ReaderState → Result (Unit {0}) Rejection
ending s = cond (length s.pending == 0) (Ok tt) (Err (PacketCut s.position))

-- WHAT THE CODE'S READER STANDS FOR
abbrev pub state_of : PacketReader → ReaderState
state_of r = record { pending = drop r.taken (vec_items r.held); position = r.position }

abbrev pub frame_of : PacketReader → List ℕ
frame_of r = between r.frame r.taken (vec_items r.held)

-- where no packet is taken, the frame stays that of the last one
abbrev pub FrameKept : Result (Option PacketHead) Rejection → (before after : List ℕ) → Type 0
FrameKept (Ok (Some head)) before after = Unit {0}
FrameKept (Ok None) before after = after ≡ before
FrameKept (Err e) before after = after ≡ before

-- its answer with the frame beside it
abbrev pub answered : Result (Option PacketHead) Rejection → (frame : List ℕ) → Result (Option Packet) Rejection
answered (Ok (Some head)) frame = Ok (Some (record { number = head.number; key = head.key; bytes = frame }))
answered (Ok None) frame = Ok None
answered (Err e) frame = Err e

-- of a packet that was taken: its frame has the length that its head says, and fewer bytes are pending
pub record Took (before after : ReaderState) (frame : List ℕ) (head : PacketHead) : Type 0 where
  pub sized : length frame ≡ head.length
  pub shorter : length after.pending < length before.pending

abbrev pub TookAny : (before after : ReaderState) → (frame : List ℕ) → Option PacketHead → Type 0
TookAny before after frame None = Unit {0}
TookAny before after frame (Some head) = Took before after frame head

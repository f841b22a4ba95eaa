-- What an error of the layers below is refused as. Assumes nothing: these are definitions.
use Rattle.std.specs.Prelude.{ℕ, ◌≡◌, List, string_bytes}
use Rattle.console.specs.declared.refusal.Refusal.{Refusal}
use Rattle.console.specs.declared.refusal.Refusal.TheVariants.{OutOfMemory, Rejected, Sentence}
use Rattle.text.specs.Placing.{placed_at}
use Rattle.text.specs.declared.error.PacketError.{PacketError}
use Rattle.text.specs.declared.error.PacketError.TheVariants as packet

abbrev pub of_packet : PacketError → Refusal
of_packet (packet.Rejected rejection) = Rejected rejection
of_packet packet.OutOfMemory = OutOfMemory

-- a refusal of what begins at that offset of the input
abbrev pub placed_from : (offset : ℕ) → Refusal → Refusal
placed_from offset (Rejected rejection) = Rejected (placed_at offset rejection)
placed_from offset refusal = refusal

-- a sentence of these bytes, or that there was no memory to make it
abbrev pub Says : List ℕ → Refusal → Type 0
Says bytes (Sentence sentence) = string_bytes sentence ≡ bytes
Says bytes OutOfMemory = Unit {0}
Says bytes refusal = ⊥

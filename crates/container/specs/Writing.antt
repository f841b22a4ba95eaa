-- What writing a packet does. Assumes nothing: these are definitions.
use Rattle.std.specs.Prelude.{◌≡◌, ℕ, ◌^◌, ◌<◌, ◌≤◌, List, ◌++◌, length, drop, Some, None, Ok, Err, Option, Result, nat_le}
use Rattle.container.specs.Container.{Packet, packet_bytes}
use Rattle.text.specs.declared.error.PacketError.{PacketError}
use Rattle.text.specs.declared.error.PacketError.TheVariants.{OutOfMemory, Rejected}
use Rattle.frame.specs.Rejection.{or_else, unless}
use Rattle.frame.specs.declared.rejection.Rejection.{Rejection}
use Rattle.frame.specs.declared.rejection.Rejection.TheVariants.{BadText, BufferTooShort}

-- at the end of a file, which is left as it was where there is an error
abbrev pub Written : Packet → (before : List ℕ) → Result (Unit {0}) PacketError → (after : List ℕ) → Type 0
Written p before (Ok u) after = (p.number ≤ 2 ^ 62) × (after ≡ before ++ packet_bytes p)
Written p before (Err (Rejected e)) after = (2 ^ 62 < p.number) × (e ≡ BadText (length before)) × (after ≡ before)
Written p before (Err OutOfMemory) after = after ≡ before

-- into a buffer of so many bytes
abbrev pub write_rejection : Packet → ℕ → Option Rejection
write_rejection p room =
    or_else (unless (nat_le p.number (2 ^ 62)) (BadText 0)) (unless (nat_le (length (packet_bytes p)) room) (BufferTooShort room))

abbrev pub WritesInto : Option Rejection → Packet → (before : List ℕ) → Result ℕ Rejection → (after : List ℕ) → Type 0
WritesInto (Some e) p before answer after = (answer ≡ Err e) × (after ≡ before)
WritesInto None p before answer after =
    (answer ≡ Ok (length (packet_bytes p))) × (after ≡ packet_bytes p ++ drop (length (packet_bytes p)) before)

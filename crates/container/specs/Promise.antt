-- What files promise. Each is a statement, and a function's contract asks for its proof. The front is whatever stands before the
-- first packet, as the header line.
use Rattle.std.specs.Prelude.{◌≡◌, ℕ, ◌+◌, ◌^◌, ◌<◌, ◌≤◌, cond, List, [], ◌∷◌, ◌++◌, length, take, Some, None, Ok, Err, Result, ◌==◌}
use Rattle.container.specs.Container.{InRange, Packet, Played, file_bytes, packet_bytes, played}
use Rattle.container.specs.HeaderLine.{HeaderRead, header_line}
use Rattle.container.specs.Reader.{ReaderState, ending, fed, next_packet, state_after}
use Rattle.frame.specs.declared.rejection.Rejection.{Rejection}
use Rattle.frame.specs.declared.rejection.Rejection.TheVariants.{PacketCut}
use Rattle.std.specs.List.{AllByRecursion}
use Rattle.frame.specs.declared.header.VideoHeader.{VideoHeader}

-- A HEADER LINE IS READ BACK, whatever stands after it, and the first packet begins where it ends: no byte of its text is a
-- newline, and the text form reads back
abbrev pub HeaderReadBack : Type 0
HeaderReadBack =
    (h : VideoHeader) (bytes : List ℕ) (answer : Result (VideoHeader × ℕ) Rejection) → h.across < 2 ^ 64 → h.down < 2 ^ 64 → h.step < 2 ^ 64 →
    HeaderRead (header_line h ++ bytes) answer → answer ≡ Ok (h, length (header_line h))

-- WHAT WAS WRITTEN IS READ BACK, the same packets in order and then a clean end: a number's groups add up to it again, so that
-- each packet is read to just where it ends
abbrev pub ReadBack : Type 0
ReadBack =
    (front : List ℕ) (ps : List Packet) → AllByRecursion InRange ps →
    played (front ++ file_bytes ps) (length front) ≡ record { packets = ps; ending = Ok tt }

-- a file of which the first so many bytes are kept: it plays the packets that are kept as a whole, and is then rejected at the
-- packet that is cut, unless the cut is between packets
pub record CutPlay (position : ℕ) (ps : List Packet) (kept : ℕ) (result : Played) : Type 0 where
  pub whole : List Packet
  pub rest : List Packet
  pub split : ps ≡ whole ++ rest
  pub within : length (file_bytes whole) ≤ kept
  pub beyond : (p : Packet) (qs : List Packet) → rest ≡ p ∷ qs → kept < length (file_bytes whole) + length (packet_bytes p)
  pub packets : result.packets ≡ whole
  pub ending : result.ending ≡ cond (kept == length (file_bytes whole)) (Ok tt) (Err (PacketCut (position + length (file_bytes whole))))

-- A FILE THAT IS CUT AT ANY BYTE PLAYS ITS WHOLE PACKETS, and nothing of the one that is cut: what is read without the bytes that
-- are missing would be read the same with them, and a packet does not end before its last byte
abbrev pub CutAnywhere : Type 0
CutAnywhere =
    (front : List ℕ) (ps : List Packet) (kept : ℕ) → AllByRecursion InRange ps → kept ≤ length (file_bytes ps) →
    CutPlay (length front) ps kept (played (front ++ take kept (file_bytes ps)) (length front))

-- ONE FORM: a file that plays to its end is byte for byte what its packets are written as, so that no two such files play the
-- same. Only the shortest form of a number is read.
abbrev pub OneForm : Type 0
OneForm =
    (front bytes : List ℕ) → AllByRecursion (λ b. b < 256) bytes → (played (front ++ bytes) (length front)).ending ≡ Ok tt →
    bytes ≡ file_bytes (played (front ++ bytes) (length front)).packets

-- a reader's history: what it was fed, in whatever pieces, and which packets it has given, whenever they were asked for
pub data Fed (position : ℕ) : List ℕ → List Packet → ReaderState → Type 0 where
  begun : Fed position [] [] (record { pending = []; position = position })
  piece : (bytes : List ℕ) (ps : List Packet) (s : ReaderState) (more : List ℕ) → Fed position bytes ps s → Fed position (bytes ++ more) ps (fed s more)
  given : (bytes : List ℕ) (ps : List Packet) (s : ReaderState) (p : Packet) → Fed position bytes ps s → next_packet s ≡ Ok (Some p)
      → Fed position bytes (ps ++ p ∷ []) (state_after s)

-- a reader that has no more to give has given what the file plays, and ends as it; and what it rejects is rejected whatever
-- may follow
pub record ReadsAlike (front bytes : List ℕ) (ps : List Packet) (s : ReaderState) : Type 0 where
  pub ends : next_packet s ≡ Ok None → played (front ++ bytes) (length front) ≡ record { packets = ps; ending = ending s }
  pub stops : (e : Rejection) → next_packet s ≡ Err e → (more : List ℕ) → played (front ++ (bytes ++ more)) (length front) ≡ record { packets = ps; ending = Err e }

-- IT DOES NOT MATTER WHERE A FILE IS CUT INTO PIECES, since more bytes change nothing about a packet that is whole or malformed
abbrev pub AnyPieces : Type 0
AnyPieces =
    (front bytes : List ℕ) (ps : List Packet) (s : ReaderState) → length (front ++ bytes) < 2 ^ 64 → Fed (length front) bytes ps s →
    ReadsAlike front bytes ps s

-- Packets in a file: their bytes, and what reading them means. Assumes nothing: these are definitions.
use Rattle.std.specs.Prelude.{ℕ, zero, suc, ◌+◌, ◌-◌, ◌*◌, ◌/◌, ◌%◌, ◌^◌, ◌<◌, ◌≤◌, Bool, cond, ◌&&◌, List, [], ◌∷◌, ◌++◌, length, drop, Some, None, Ok, Err, Option, Result, ◌==◌, nat_le, nat_lt}
use Rattle.container.specs.declared.fault.Fault.{Fault}
use Rattle.container.specs.declared.fault.Fault.TheVariants.{Cut, Malformed}
use Rattle.container.specs.declared.packet.PacketAt.{PacketAt}
use Rattle.container.specs.declared.varint.Varint.{Varint}
use Rattle.frame.specs.declared.packet.Packet as lent
use Rattle.frame.specs.declared.rejection.Rejection.{Rejection}
use Rattle.frame.specs.declared.rejection.Rejection.TheVariants.{PacketCut, BadText}
use Rattle.std.specs.List.{between, flat_map}

-- THE BYTES OF A NUMBER: groups of seven bits, the lowest first; the high bit of a byte says that another follows
unfoldable pub varint_within : (groups : ℕ) → ℕ → List ℕ
varint_within zero n = n ∷ []
varint_within (suc groups) n = cond (nat_lt n 128) (n ∷ []) ((128 + n % 128) ∷ varint_within groups (n / 128))

-- a number has no more groups than it counts to
abbrev pub varint : ℕ → List ℕ
varint n = varint_within n n

-- THE BYTES OF A PACKET
pub record Packet : Type 0 where
  pub number : ℕ
  pub key : Bool
  pub bytes : List ℕ

abbrev pub lent_packet : lent.Packet → Packet
lent_packet p = record { number = p.number; key = p.frame.header.key; bytes = p.frame.bytes.now }

-- the sequence number with the mark of a key frame
abbrev pub tag : ℕ → Bool → ℕ
tag n k = 2 * n + cond k 1 0

unfoldable pub packet_bytes : Packet → List ℕ
packet_bytes p = varint (tag p.number p.key) ++ (varint (length p.bytes) ++ p.bytes)

abbrev pub file_bytes : List Packet → List ℕ
file_bytes ps = flat_map packet_bytes ps

-- what has such bytes: a sequence number of at most 2^62, and a length of 64 bits
pub record InRange (p : Packet) : Type 0 where
  pub number : p.number ≤ 2 ^ 62
  pub size : length p.bytes < 2 ^ 64

-- READING A NUMBER, after a value of so many bytes; the next group counts this many times. It is below 2^64, which leaves
-- ten groups at most, and its last group is not a superfluous zero.
unfoldable pub varint_from : (place value size : ℕ) → List ℕ → Result Varint Fault
varint_from place value size [] = Err Cut
varint_from place value size (b ∷ bs) =
    cond (nat_lt (value + b % 128 * place) (2 ^ 64))
    (cond (nat_lt b 128)
    (cond (b == 0 && nat_lt 1 place) (Err Malformed) (Ok (record { value = value + b % 128 * place; size = suc size })))
    (cond (nat_lt (place * 128) (2 ^ 64)) (varint_from (place * 128) (value + b % 128 * place) (suc size) bs) (Err Malformed)))
    (Err Malformed)

abbrev pub varint_of : List ℕ → Result Varint Fault
varint_of bytes = varint_from 1 0 0 bytes

-- READING A PACKET, the first of these bytes: a sequence number of at most 2^62, and as many bytes as the length says
abbrev pub then : {A B : Type 0} → Result A Fault → (A → Result B Fault) → Result B Fault
then (Ok x) f = f x
then (Err e) f = Err e

abbrev pub framed : (bytes tag size start : ℕ) → Result PacketAt Fault
framed bytes tag size start =
    cond (nat_lt (bytes - start) size) (Err Cut)
    (Ok (record { head = record { number = tag / 2; key = (tag % 2 == 1); length = size }; start = start; end = start + size }))

unfoldable pub first_packet : List ℕ → Result PacketAt Fault
first_packet bytes =
    then (varint_of bytes) λ t.
    cond (nat_lt (2 ^ 62) (t.value / 2)) (Err Malformed)
    (then (varint_of (drop t.size bytes)) λ l. framed (length bytes) t.value l.value (t.size + l.size))

abbrev pub rejected : Fault → ℕ → Rejection
rejected Cut position = PacketCut position
rejected Malformed position = BadText position

abbrev pub moved : ℕ → PacketAt → PacketAt
moved n p = record { head = p.head; start = n + p.start; end = n + p.end }

abbrev pub placed : (position : ℕ) → Result PacketAt Fault → Result (Option PacketAt) Rejection
placed position (Ok p) = Ok (Some (moved position p))
placed position (Err e) = Err (rejected e position)

-- at a position of a file; past its last byte there is none
unfoldable pub packet_at : (file : List ℕ) → (position : ℕ) → Result (Option PacketAt) Rejection
packet_at file position = cond (nat_le (length file) position) (Ok None) (placed position (first_packet (drop position file)))

-- WHAT A FILE PLAYS, packet after packet from a position on: its packets up to the end or to what is rejected
abbrev pub contents : (file : List ℕ) → PacketAt → Packet
contents file p = record { number = p.head.number; key = p.head.key; bytes = between p.start p.end file }

pub record Played : Type 0 where
  pub packets : List Packet
  pub ending : Result (Unit {0}) Rejection

abbrev pub continued : (file : List ℕ) → Result (Option PacketAt) Rejection → (PacketAt → Played) → Played
continued file (Ok None) rest = record { packets = []; ending = Ok tt }
continued file (Ok (Some p)) rest = record { packets = contents file p ∷ (rest p).packets; ending = (rest p).ending }
continued file (Err e) rest = record { packets = []; ending = Err e }

unfoldable pub play : (most : ℕ) → (file : List ℕ) → (position : ℕ) → Played
play zero file position = record { packets = []; ending = Ok tt }
play (suc most) file position = continued file (packet_at file position) λ p. play most file p.end

-- a packet has a byte or more, so a file has no more packets than bytes
abbrev pub played : (file : List ℕ) → (position : ℕ) → Played
played file position = play (suc (length file)) file position

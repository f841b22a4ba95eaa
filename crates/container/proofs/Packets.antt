-- Reading a packet, in each case.
use Rattle.std.proofs.Common.{◌≡◌, ℕ, ◌+◌, ◌-◌, ◌/◌, ◌%◌, ◌^◌, ◌<◌, ◌≤◌, eqb, ◌⊎◌, List, ◌++◌, length, take, drop, IfOk, None, Some, Ok, Err, Result, sym, refl, ap, ◌∙◌, inl, inr, arith}
use Rattle.container.specs.Container.{contents, first_packet, framed, moved, packet_at, placed, rejected, varint_of}
use Rattle.container.specs.declared.fault.Fault.{Fault}
use Rattle.container.specs.declared.fault.Fault.TheVariants.{Cut, Malformed}
use Rattle.container.specs.declared.packet.PacketAt.{PacketAt}
use Rattle.container.specs.declared.varint.Varint.{Varint}
use Rattle.container.specs.Within.{Whole, WholeAt}
use Rattle.container.proofs.Varints.{Sized, read_sized, settled}
use Rattle.std.proofs.lemmas.List.{drop-append-le, drop-drop, length-append, length-drop, take-append-le, take_rest}
use Rattle.std.proofs.lemmas.Bool.{cases_lt, lt-ltb, le-ltb, le-leb, lt-leb}

module _ (bytes : List ℕ) where
  pub tag_fault : {e : Fault} → varint_of bytes ≡ Err e → first_packet bytes ≡ Err e
  unfolding first_packet
  tag_fault h = rw h

  module _ (t : Varint) (tagged : varint_of bytes ≡ Ok t) where
    pub number_fault : 2 ^ 62 < t.value / 2 → first_packet bytes ≡ Err Malformed
    unfolding first_packet
    number_fault h = rw (tagged, lt-ltb (2 ^ 62) (t.value / 2) h)

    module _ (small : t.value / 2 ≤ 2 ^ 62) where
      pub length_fault : {e : Fault} → varint_of (drop t.size bytes) ≡ Err e → first_packet bytes ≡ Err e
      unfolding first_packet
      length_fault h = rw (tagged, le-ltb (2 ^ 62) (t.value / 2) small, h)

      pub then_framed : (l : Varint) → varint_of (drop t.size bytes) ≡ Ok l → first_packet bytes ≡ framed (length bytes) t.value l.value (t.size + l.size)
      unfolding first_packet
      then_framed l h = rw (tagged, le-ltb (2 ^ 62) (t.value / 2) small, h)

module _ (bytes tag size start : ℕ) where
  pub frame_cut : bytes - start < size → framed bytes tag size start ≡ Err Cut
  frame_cut h = rw (lt-ltb (bytes - start) size h)

  pub frame_whole : size ≤ bytes - start → framed bytes tag size start ≡ Ok (record { head = record { number = tag / 2; key = eqb (tag % 2) 1; length = size }; start = start; end = start + size })
  frame_whole h = rw (le-ltb (bytes - start) size h)

-- A PACKET THAT WAS READ is there as a whole
pub first_whole : (bytes : List ℕ) → IfOk (first_packet bytes) (Whole 0 (length bytes))
first_whole bytes = go (varint_of bytes) refl (read_sized bytes 1 0 0)
  where
    go_length : (t : Varint) → varint_of bytes ≡ Ok t → t.value / 2 ≤ 2 ^ 62 → Sized 0 (length bytes) t
        → (r : Result Varint Fault) → varint_of (drop t.size bytes) ≡ r → IfOk r (Sized 0 (length (drop t.size bytes))) → IfOk (first_packet bytes) (Whole 0 (length bytes))
    go_length t e h s (Err f) i w = rw (length_fault bytes t e h i) tt
    go_length t e h s (Ok l) i w = elim (cases_lt (length bytes - (t.size + l.size)) l.value) [
      | inl j ↦ rw (then_framed bytes t e h l i, frame_cut (length bytes) t.value l.value (t.size + l.size) j) tt
      | inr j ↦ rw (then_framed bytes t e h l i, frame_whole (length bytes) t.value l.value (t.size + l.size) j)
          (record { begins = omega arith; sized = refl; ends = omega (arith, length-drop t.size bytes) })
    ]

    go : (r : Result Varint Fault) → varint_of bytes ≡ r → IfOk r (Sized 0 (length bytes)) → IfOk (first_packet bytes) (Whole 0 (length bytes))
    go (Err f) e s = rw (tag_fault bytes e) tt
    go (Ok t) e s = elim (cases_lt (2 ^ 62) (t.value / 2)) [
      | inl h ↦ rw (number_fault bytes t e h) tt
      | inr h ↦ go_length t e h s (varint_of (drop t.size bytes)) refl (read_sized (drop t.size bytes) 1 0 0)
    ]

-- MORE BYTES change nothing, unless the packet was cut
pub packet_settled : (bytes tail : List ℕ) → (first_packet bytes ≡ Err Cut) ⊎ (first_packet (bytes ++ tail) ≡ first_packet bytes)
packet_settled bytes tail = elim (settled bytes tail 1 0 0) [
  | inl e ↦ inl (tag_fault bytes e)
  | inr e ↦ go (varint_of bytes) refl e (read_sized bytes 1 0 0)
]
  where
    Goal : Type 0
    Goal = (first_packet bytes ≡ Err Cut) ⊎ (first_packet (bytes ++ tail) ≡ first_packet bytes)

    go_length : (t : Varint) → varint_of bytes ≡ Ok t → varint_of (bytes ++ tail) ≡ Ok t → t.value / 2 ≤ 2 ^ 62 → (r : Result Varint Fault)
        → varint_of (drop t.size bytes) ≡ r → varint_of (drop t.size (bytes ++ tail)) ≡ r → Goal
    go_length t e e' h (Err f) i i' = inr (length_fault (bytes ++ tail) t e' h i' ∙ sym (length_fault bytes t e h i))
    go_length t e e' h (Ok l) i i' = elim (cases_lt (length bytes - (t.size + l.size)) l.value) [
      | inl j ↦ inl (then_framed bytes t e h l i ∙ frame_cut (length bytes) t.value l.value (t.size + l.size) j)
      | inr j ↦ inr (then_framed (bytes ++ tail) t e' h l i'
          ∙ frame_whole (length (bytes ++ tail)) t.value l.value (t.size + l.size) (omega (arith, length-append bytes tail))
          ∙ sym (then_framed bytes t e h l i ∙ frame_whole (length bytes) t.value l.value (t.size + l.size) j))
    ]

    go : (r : Result Varint Fault) → varint_of bytes ≡ r → varint_of (bytes ++ tail) ≡ varint_of bytes → IfOk r (Sized 0 (length bytes)) → Goal
    go (Err f) e x s = inr (tag_fault (bytes ++ tail) (x ∙ e) ∙ sym (tag_fault bytes e))
    go (Ok t) e x s = elim (cases_lt (2 ^ 62) (t.value / 2)) [
      | inl h ↦ inr (number_fault (bytes ++ tail) t (x ∙ e) h ∙ sym (number_fault bytes t e h))
      | inr h ↦
          let d : drop t.size (bytes ++ tail) ≡ drop t.size bytes ++ tail = drop-append-le t.size bytes tail (omega arith) in
          elim (settled (drop t.size bytes) tail 1 0 0) [
            | inl i ↦ inl (length_fault bytes t e h i)
            | inr i ↦ go_length t e (x ∙ e) h (varint_of (drop t.size bytes)) refl (ap varint_of d ∙ i)
          ]
    ]

-- A PACKET AT A POSITION of a file, by the bytes from there on
module _ (file : List ℕ) (position : ℕ) where
  pub at_end : length file ≤ position → packet_at file position ≡ Ok None
  unfolding packet_at
  at_end h = rw (le-leb (length file) position h)

  pub before_end : position < length file → packet_at file position ≡ placed position (first_packet (drop position file))
  unfolding packet_at
  before_end h = rw (lt-leb (length file) position h)

  pub found_at : (q : PacketAt) → position < length file → Ok q ≡ first_packet (take (length file - position) (drop position file))
      → Ok (Some (moved position q)) ≡ packet_at file position
  found_at q h e = ap (placed position) (rw take_rest at e) ∙ sym (before_end h)

  pub fault_at : (f : Fault) → position < length file → Err f ≡ first_packet (take (length file - position) (drop position file))
      → Err (rejected f position) ≡ packet_at file position
  fault_at f h e = ap (placed position) (rw take_rest at e) ∙ sym (before_end h)

  pub at_whole : IfOk (packet_at file position) (WholeAt position (length file))
  at_whole = elim (cases_lt position (length file)) [
    | inr h ↦ rw (at_end h) tt
    | inl h ↦ rw (before_end h) (go h (first_packet (drop position file)) (first_whole (drop position file)))
  ]
    where
      go : position < length file → (r : Result PacketAt Fault) → IfOk r (Whole 0 (length (drop position file))) → IfOk (placed position r) (WholeAt position (length file))
      go h (Err f) w = tt
      go h (Ok q) w = record { begins = omega (arith, w.begins); sized = omega (arith, w.sized); ends = omega (arith, w.ends, length-drop position file) }

  module _ (bytes : List ℕ) (from : drop position file ≡ bytes) where
    pub from_none : length bytes ≡ 0 → packet_at file position ≡ Ok None
    from_none h = at_end (omega (arith, ap length from, length-drop position file))

    pub from_some : 0 < length bytes → packet_at file position ≡ placed position (first_packet bytes)
    from_some h = before_end (omega (arith, ap length from, length-drop position file)) ∙ ap (λ bs. placed position (first_packet bs)) from

    pub from_next : (n : ℕ) → drop (position + n) file ≡ drop n bytes
    from_next n = sym (drop-drop n position file) ∙ ap (drop n) from

    pub from_contents : (q : PacketAt) → contents file (moved position q) ≡ contents bytes q
    from_contents q =
        let e : position + q.end - (position + q.start) ≡ q.end - q.start = omega arith in
        rw (e, from_next q.start)

-- the bytes after a packet do not matter to it
pub contents_front : (bytes tail : List ℕ) (q : PacketAt) → q.start ≤ q.end → q.end ≤ length bytes → contents (bytes ++ tail) q ≡ contents bytes q
contents_front bytes tail q h l =
    rw (
      drop-append-le q.start bytes tail (omega arith),
      take-append-le (q.end - q.start) (drop q.start bytes) tail (omega (arith, length-drop q.start bytes)),
    )

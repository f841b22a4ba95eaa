-- The bytes of a packet are read back as it, and nothing else is.
use Rattle.std.proofs.Common.{◌≡◌, ℕ, ◌+◌, ◌-◌, ◌*◌, ◌/◌, ◌%◌, ◌^◌, ◌<◌, ◌≤◌, Bool, true, false, eqb, List, ◌++◌, length, take, drop, IfOk, Ok, Err, Result, sym, refl, ap, ◌∙◌, inl, inr, arith}
use Rattle.container.specs.Container.{InRange, Packet, contents, first_packet, packet_bytes, tag, varint, varint_of}
use Rattle.container.specs.declared.fault.Fault.{Fault}
use Rattle.container.specs.declared.packet.PacketAt.{PacketAt}
use Rattle.container.specs.declared.varint.Varint.{Varint}
use Rattle.container.proofs.Groups.{tag_below}
use Rattle.container.proofs.Packets.{frame_cut, frame_whole, length_fault, number_fault, tag_fault, then_framed}
use Rattle.container.proofs.Varints.{Sized, read_sized, varint_reads, varint_written}
use Rattle.std.proofs.ByRecursion.{All-drop}
use Rattle.std.proofs.lemmas.List.{append_assoc, drop_at, drop-drop, length-append, length-drop, length-take-le, take_all, take-append-drop}
use Rattle.std.proofs.lemmas.Bool.{cases_lt, eq-eqb, eqb-false, eqb-true, ne_eqb}
use Rattle.std.specs.List.{AllByRecursion}

tag_number : (n : ℕ) (k : Bool) → tag n k / 2 ≡ n
tag_number n true = omega arith
tag_number n false = omega arith

tag_key : (n : ℕ) (k : Bool) → eqb (tag n k % 2) 1 ≡ k
tag_key n true = eq-eqb ((2 * n + 1) % 2) 1 (omega arith)
tag_key n false = ne_eqb ((2 * n + 0) % 2) 1 (λ e. (let f : ⊥ = omega arith in f))

-- where a packet's frame stands among its bytes
abbrev pub head_size : Packet → ℕ
head_size p = length (varint (tag p.number p.key)) + length (varint (length p.bytes))

abbrev pub located : Packet → PacketAt
located p = record {
  head = record { number = p.number; key = p.key; length = length p.bytes };
  start = head_size p;
  end = head_size p + length p.bytes;
}

module _ (p : Packet) where
  pub packet_size : length (packet_bytes p) ≡ head_size p + length p.bytes
  unfolding packet_bytes
  packet_size = simp length-append (omega arith)

  pub located_contents : contents (packet_bytes p) (located p) ≡ p
  unfolding packet_bytes
  located_contents =
      let t : List ℕ = varint (tag p.number p.key) in
      let l : List ℕ = varint (length p.bytes) in
      let e : head_size p + length p.bytes - head_size p ≡ length p.bytes = omega arith in
      let d : drop (head_size p) (packet_bytes p) ≡ p.bytes =
      rw (sym (append_assoc t l p.bytes)) (drop_at (t ++ l) p.bytes (head_size p) (length-append t l)) in
      ap (λ bs. record { number = p.number; key = p.key; bytes = bs })
      (ap (λ n. take n (drop (head_size p) (packet_bytes p))) e ∙ ap (take (length p.bytes)) d ∙ take_all (length p.bytes) p.bytes (omega arith))

  split : (tail : List ℕ) → packet_bytes p ++ tail ≡ varint (tag p.number p.key) ++ (varint (length p.bytes) ++ (p.bytes ++ tail))
  unfolding packet_bytes
  split tail = simp append_assoc

  pub packet_reads : (tail : List ℕ) → InRange p → first_packet (packet_bytes p ++ tail) ≡ Ok (located p)
  packet_reads tail r =
      let T : ℕ = tag p.number p.key in
      let L : ℕ = length p.bytes in
      let t : Varint = record { value = T; size = length (varint T) } in
      let l : Varint = record { value = L; size = length (varint L) } in
      let s : packet_bytes p ++ tail ≡ varint T ++ (varint L ++ (p.bytes ++ tail)) = split tail in
      let e : varint_of (packet_bytes p ++ tail) ≡ Ok t = rw s (varint_reads T (varint L ++ (p.bytes ++ tail)) (tag_below p.number p.key r.number)) in
      let d : drop (length (varint T)) (packet_bytes p ++ tail) ≡ varint L ++ (p.bytes ++ tail) =
      rw s (drop_at (varint T) (varint L ++ (p.bytes ++ tail)) (length (varint T)) refl) in
      let i : varint_of (drop (length (varint T)) (packet_bytes p ++ tail)) ≡ Ok l = rw d (varint_reads L (p.bytes ++ tail) r.size) in
      then_framed (packet_bytes p ++ tail) t e (rw (tag_number p.number p.key) r.number) l i
      ∙ frame_whole (length (packet_bytes p ++ tail)) T L (length (varint T) + length (varint L)) (omega (arith, length-append (packet_bytes p) tail, packet_size))
      ∙ rw (tag_number p.number p.key, tag_key p.number p.key)

-- ONLY ITS OWN BYTES are read as a packet
tag_again : (n : ℕ) → tag (n / 2) (eqb (n % 2) 1) ≡ n
tag_again n = go (eqb (n % 2) 1) refl
  where
    go : (k : Bool) → eqb (n % 2) 1 ≡ k → tag (n / 2) k ≡ n
    go true e = omega (arith, eqb-true (n % 2) 1 e)
    go false e = (let f : 2 * (n / 2) + 0 ≡ n = omega (arith, eqb-false (n % 2) 1 e) in f)

rejoined : (bytes one two : List ℕ) (m n size k : ℕ) → bytes ≡ one ++ drop m bytes → drop m bytes ≡ two ++ drop n (drop m bytes) → k ≡ size
    → bytes ≡ (one ++ (two ++ take k (drop (m + n) bytes))) ++ drop (m + n + size) bytes
rejoined bytes one two m n size k e f g =
    let rest : List ℕ = drop (m + n) bytes in
    let h : drop m bytes ≡ two ++ rest = f ∙ ap (λ xs. two ++ xs) (drop-drop n m bytes) in
    let i : take k rest ++ drop (m + n + size) bytes ≡ rest = rw (g, sym (drop-drop size (m + n) bytes)) (take-append-drop size rest) in
    e ∙ ap (λ xs. one ++ xs) (h ∙ ap (λ xs. two ++ xs) (sym i)) ∙ sym (simp append_assoc)

abbrev pub IsWritten : (bytes : List ℕ) → PacketAt → Type 0
IsWritten bytes q = (bytes ≡ packet_bytes (contents bytes q) ++ drop q.end bytes) × InRange (contents bytes q)

module _ (bytes : List ℕ) (t l : Varint) (small : t.value / 2 ≤ 2 ^ 62) (below : l.value < 2 ^ 64)
    (tagged : bytes ≡ varint t.value ++ drop t.size bytes)
    (sized : drop t.size bytes ≡ varint l.value ++ drop l.size (drop t.size bytes))
    (whole : l.value ≤ length bytes - (t.size + l.size)) where
  framed_written : IsWritten bytes (record {
    head = record { number = t.value / 2; key = eqb (t.value % 2) 1; length = l.value };
    start = t.size + l.size;
    end = t.size + l.size + l.value;
  })
  unfolding packet_bytes
  framed_written =
      let k : t.size + l.size + l.value - (t.size + l.size) ≡ l.value = omega arith in
      let n : length (take l.value (drop (t.size + l.size) bytes)) ≡ l.value =
      length-take-le l.value (drop (t.size + l.size) bytes) (rw (length-drop (t.size + l.size) bytes) whole) in (
        rw (k, tag_again t.value, n) (rejoined bytes (varint t.value) (varint l.value) t.size l.size l.value l.value tagged sized refl),
        record { number = small; size = rw (k, n) below },
      )

pub read_written : (bytes : List ℕ) → AllByRecursion (λ b. b < 256) bytes → IfOk (first_packet bytes) (IsWritten bytes)
read_written bytes below = go (varint_of bytes) refl (varint_written bytes below)
  where
    go_length : (t : Varint) → varint_of bytes ≡ Ok t → t.value / 2 ≤ 2 ^ 62 → bytes ≡ varint t.value ++ drop t.size bytes
        → (r : Result Varint Fault) → varint_of (drop t.size bytes) ≡ r → IfOk r (Sized 0 (length (drop t.size bytes)))
        → IfOk r (λ l. (l.size ≡ length (varint l.value)) × (drop t.size bytes ≡ varint l.value ++ drop l.size (drop t.size bytes)))
        → IfOk (first_packet bytes) (IsWritten bytes)
    go_length t e h x (Err f) i s w = rw (length_fault bytes t e h i) tt
    go_length t e h x (Ok l) i s w = elim (cases_lt (length bytes - (t.size + l.size)) l.value) [
      | inl j ↦ rw (then_framed bytes t e h l i, frame_cut (length bytes) t.value l.value (t.size + l.size) j) tt
      | inr j ↦ rw (then_framed bytes t e h l i, frame_whole (length bytes) t.value l.value (t.size + l.size) j)
          (framed_written bytes t l h s.2 x w.1 j)
    ]

    go : (r : Result Varint Fault) → varint_of bytes ≡ r → IfOk r (λ t. (t.size ≡ length (varint t.value)) × (bytes ≡ varint t.value ++ drop t.size bytes))
        → IfOk (first_packet bytes) (IsWritten bytes)
    go (Err f) e w = rw (tag_fault bytes e) tt
    go (Ok t) e w = elim (cases_lt (2 ^ 62) (t.value / 2)) [
      | inl h ↦ rw (number_fault bytes t e h) tt
      | inr h ↦ go_length t e h w.1 (varint_of (drop t.size bytes)) refl (read_sized (drop t.size bytes) 1 0 0)
          (varint_written (drop t.size bytes) (All-drop (λ b. b < 256) t.size bytes below))
    ]

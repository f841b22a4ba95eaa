-- A packet's bytes, put at the end of a file or at the start of a buffer.
use Rattle.std.proofs.Common.{◌≡◌, ℕ, ◌+◌, ◌^◌, ◌<◌, ◌≤◌, List, ◌++◌, length, take, drop, Ok, Err, Result, sym, refl, ap, ◌∙◌, arith}
use borrow.Rule.Slice.PartMut.{post_of, put_mid}
use Rattle.container.specs.Container.{Packet, packet_bytes, tag, varint}
use Rattle.container.specs.Writing.{WritesInto, write_rejection}
use Rattle.frame.specs.declared.rejection.Rejection.{Rejection}
use Rattle.frame.specs.declared.rejection.Rejection.TheVariants.{BufferTooShort}
use Rattle.std.proofs.lemmas.List.{append_assoc, drop_at, drop-drop, length-append, take_at}
use Rattle.std.proofs.lemmas.Bool.{le-leb, lt-leb}

-- two parts written one after the other
parts_put : (front back before : List ℕ) (size k z : ℕ) → length front ≡ size → k ≡ length back → z ≡ size
    → put_mid size k (front ++ post_of 0 z before) back ≡ (front ++ back) ++ drop (size + length back) before
parts_put front back before size k z e f g =
    rw (g, f, take_at front (drop size before) size e, drop_at front (drop size before) size e, drop-drop (length back) size before, append_assoc)

-- the bytes before the frame's, and the frame's
module _ (p : Packet) (head : List ℕ) (is_head : head ≡ varint (tag p.number p.key) ++ varint (length p.bytes)) where
  packet_split : head ++ p.bytes ≡ packet_bytes p
  unfolding packet_bytes
  packet_split = rw (is_head, append_assoc)

  pub packet_length : length head + length p.bytes ≡ length (packet_bytes p)
  packet_length = omega (arith, ap length packet_split, length-append head p.bytes)

  pub at_file_end : (before : List ℕ) {one two : List ℕ} → one ≡ before ++ head → two ≡ one ++ p.bytes → two ≡ before ++ packet_bytes p
  at_file_end before e f = f ∙ ap (λ bs. bs ++ p.bytes) e ∙ append_assoc before head p.bytes ∙ ap (λ bs. before ++ bs) packet_split

  pub at_buffer_start : (before : List ℕ) {front back : List ℕ} (k z : ℕ) → front ≡ head → back ≡ p.bytes → k ≡ length p.bytes → z ≡ length head
      → put_mid (length head) k (front ++ post_of 0 z before) back ≡ packet_bytes p ++ drop (length (packet_bytes p)) before
  at_buffer_start before k z e f g i = rw (e, f, sym packet_length, sym packet_split) (parts_put head p.bytes before (length head) k z refl g i)

-- a file that is cut to its old length is as it was
pub cut_back : (before front : List ℕ) {one two : List ℕ} (n : ℕ) → one ≡ before ++ front → two ≡ one → length before ≡ n → take n two ≡ before
cut_back before front n e f g = rw (f, e, take_at before front n g)

module _ (p : Packet) (before : List ℕ) (small : p.number ≤ 2 ^ 62) where
  pub fitting : length (packet_bytes p) ≤ length before → {answer : Result ℕ Rejection} {after : List ℕ} → answer ≡ Ok (length (packet_bytes p))
      → after ≡ packet_bytes p ++ drop (length (packet_bytes p)) before → WritesInto (write_rejection p (length before)) p before answer after
  fitting h e f = rw (le-leb p.number (2 ^ 62) small, le-leb (length (packet_bytes p)) (length before) h) (e, f)

  pub too_short : length before < length (packet_bytes p) → WritesInto (write_rejection p (length before)) p before (Err (BufferTooShort (length before))) before
  too_short h = rw (le-leb p.number (2 ^ 62) small, lt-leb (length (packet_bytes p)) (length before) h) (refl, refl)

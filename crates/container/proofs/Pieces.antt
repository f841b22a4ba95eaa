-- A reader that is fed pieces plays what the whole file plays, wherever it is cut.
use Rattle.std.proofs.Common.{◌≡◌, ℕ, ◌+◌, ◌-◌, ◌^◌, ◌<◌, ◌≤◌, min, List, [], ◌∷◌, ◌++◌, length, drop, Some, None, Ok, Err, Result, sym, refl, ap, ◌∙◌, inl, inr, add-zero, add_assoc, arith}
use lib.Seq.{drop-append-add}
use Rattle.container.specs.Container.{Packet, contents, first_packet, moved, packet_at, placed, played, varint_from}
use Rattle.container.specs.Promise.{Fed, ReadsAlike, begun, given, piece}
use Rattle.container.specs.Reader.{ReaderState, ending, next_packet, offered}
use Rattle.container.specs.Within.{Whole}
use Rattle.container.specs.declared.fault.Fault.{Fault}
use Rattle.container.specs.declared.fault.Fault.TheVariants.{Cut, Malformed}
use Rattle.container.specs.declared.packet.PacketAt.{PacketAt}
use Rattle.container.proofs.Feeding.{ends_clean, ends_cut}
use Rattle.container.proofs.Packets.{contents_front, first_whole, from_contents, from_none, from_some, packet_settled}
use Rattle.container.proofs.Playing.{Plays, done, next, plays_played, stopped}
use Rattle.frame.specs.declared.rejection.Rejection.{Rejection}
use Rattle.frame.specs.declared.rejection.Rejection.TheVariants.{BadText, PacketCut}
use Rattle.std.proofs.lemmas.List.{append_assoc, append-nil, drop-append-le, drop-drop, length-append, length-drop}
use Rattle.std.proofs.lemmas.Result.{IfOk-at_ok}
use Rattle.std.proofs.lemmas.Bool.{cases_lt}

-- PACKETS THAT WERE PLAYED from a position on to another
data Through (file : List ℕ) (start : ℕ) : List Packet → ℕ → Type 0 where
  here : Through file start [] start
  and_then : (ps : List Packet) (position : ℕ) (q : PacketAt) (p : Packet) → Through file start ps position → packet_at file position ≡ Ok (Some q)
      → contents file q ≡ p → Through file start (ps ++ p ∷ []) q.end

go_on : {file : List ℕ} {start : ℕ} {ps : List Packet} {position : ℕ} {qs : List Packet} {e : Result (Unit {0}) Rejection} → Through file start ps position
    → Plays file position qs e → Plays file start (ps ++ qs) e
go_on here r = r
go_on {qs = qs} {e} (and_then ps position q p t h c) r = rw (append_assoc ps (p ∷ []) qs) (go_on t (next position q p qs e h c r))

-- WHAT A READER'S ANSWER SAYS of what is pending
module _ (s : ReaderState) where
  gave : (p : Packet) → next_packet s ≡ Ok (Some p) → (q : PacketAt) × (first_packet s.pending ≡ Ok q) × (contents s.pending q ≡ p)
  gave p h = go (first_packet s.pending) refl h
    where
      go : (r : Result PacketAt Fault) → first_packet s.pending ≡ r → offered s r ≡ Ok (Some p)
          → (q : PacketAt) × (first_packet s.pending ≡ Ok q) × (contents s.pending q ≡ p)
      go (Ok q) e h = (q, e, cc)
      go (Err Cut) e h = absurd (let z : ◌≡◌ {A = ℕ} 0 1 = cc in (let f : ⊥ = omega arith in f))
      go (Err Malformed) e h = absurd (let z : ◌≡◌ {A = ℕ} 0 1 = cc in (let f : ⊥ = omega arith in f))

  waits : next_packet s ≡ Ok None → first_packet s.pending ≡ Err Cut
  waits h = go (first_packet s.pending) refl h
    where
      go : (r : Result PacketAt Fault) → first_packet s.pending ≡ r → offered s r ≡ Ok None → first_packet s.pending ≡ Err Cut
      go (Ok q) e h = absurd (let z : ◌≡◌ {A = ℕ} 0 1 = cc in (let f : ⊥ = omega arith in f))
      go (Err Cut) e h = e
      go (Err Malformed) e h = absurd (let z : ◌≡◌ {A = ℕ} 0 1 = cc in (let f : ⊥ = omega arith in f))

  rejects : (x : Rejection) → next_packet s ≡ Err x → (first_packet s.pending ≡ Err Malformed) × (x ≡ BadText s.position)
  rejects x h = go (first_packet s.pending) refl h
    where
      go : (r : Result PacketAt Fault) → first_packet s.pending ≡ r → offered s r ≡ Err x → (first_packet s.pending ≡ Err Malformed) × (x ≡ BadText s.position)
      go (Ok q) e h = absurd (let z : ◌≡◌ {A = ℕ} 0 1 = cc in (let f : ⊥ = omega arith in f))
      go (Err Cut) e h = absurd (let z : ◌≡◌ {A = ℕ} 0 1 = cc in (let f : ⊥ = omega arith in f))
      go (Err Malformed) e h = (e, cc)

-- what was read stays so with more bytes
still_read : (bytes tail : List ℕ) (q : PacketAt) → first_packet bytes ≡ Ok q → first_packet (bytes ++ tail) ≡ Ok q
still_read bytes tail q e = elim (packet_settled bytes tail) [
  | inl c ↦ absurd (let z : ◌≡◌ {A = ℕ} 0 1 = cc in (let f : ⊥ = omega arith in f))
  | inr s ↦ s ∙ e
]

still_malformed : (bytes tail : List ℕ) → first_packet bytes ≡ Err Malformed → first_packet (bytes ++ tail) ≡ Err Malformed
still_malformed bytes tail e = elim (packet_settled bytes tail) [
  | inl c ↦ absurd (let z : ◌≡◌ {A = ℕ} 0 1 = cc in (let f : ⊥ = omega arith in f))
  | inr s ↦ s ∙ e
]

malformed_some : (bytes : List ℕ) → first_packet bytes ≡ Err Malformed → 0 < length bytes
unfolding first_packet varint_from
malformed_some [] e = absurd (let z : ◌≡◌ {A = ℕ} 0 1 = cc in (let f : ⊥ = omega arith in f))
malformed_some (b ∷ bs) e = omega arith

-- THE HISTORY OF A READER: it has played the packets that it gave, and holds the bytes after them
record Kept (start : ℕ) (bytes : List ℕ) (ps : List Packet) (s : ReaderState) : Type 0 where
  taken : ℕ
  within : taken ≤ length bytes
  pending : s.pending ≡ drop taken bytes
  position : s.position ≡ min (start + taken) (2 ^ 64 - 1)
  through : (front tail : List ℕ) → length front ≡ start → Through (front ++ (bytes ++ tail)) start ps (start + taken)

module _ (start : ℕ) (bytes : List ℕ) (ps : List Packet) (s : ReaderState) (k : Kept start bytes ps s) (front tail : List ℕ) (is_start : length front ≡ start) where
  -- the file from there on
  from_there : drop (start + k.taken) (front ++ (bytes ++ tail)) ≡ s.pending ++ tail
  from_there =
      ap (λ n. drop (n + k.taken) (front ++ (bytes ++ tail))) (sym is_start) ∙ drop-append-add front (bytes ++ tail) k.taken
      ∙ drop-append-le k.taken bytes tail k.within ∙ ap (λ bs. bs ++ tail) (sym k.pending)

  one_more : (p : Packet) (q : PacketAt) → first_packet s.pending ≡ Ok q → contents s.pending q ≡ p
      → Through (front ++ (bytes ++ tail)) start (ps ++ p ∷ []) (start + (k.taken + q.end))
  one_more p q e c =
      let w = IfOk-at_ok (Whole 0 (length s.pending)) e (first_whole s.pending) in
      let file : List ℕ = front ++ (bytes ++ tail) in
      let there : ℕ = start + k.taken in
      rw (sym (add_assoc start k.taken q.end))
      (and_then ps there (moved there q) p (k.through front tail is_start)
      (from_some file there (s.pending ++ tail) from_there (omega (arith, length-append s.pending tail, w.begins, w.sized, w.ends))
      ∙ ap (placed there) (still_read s.pending tail q e))
      (from_contents file there (s.pending ++ tail) from_there q ∙ contents_front s.pending tail q (omega (arith, w.sized)) w.ends ∙ c))

kept : (start : ℕ) → start < 2 ^ 64 → {bytes : List ℕ} {ps : List Packet} {s : ReaderState} → Fed start bytes ps s → Kept start bytes ps s
kept start h begun = record {
  taken = 0;
  within = omega arith;
  pending = refl;
  position = omega arith;
  through = λ front tail e. rw (add-zero start) here;
}
kept start h (piece bytes ps s more f) =
    let k = kept start h f in
    record {
      taken = k.taken;
      within = omega (arith, k.within, length-append bytes more);
      pending = ap (λ bs. bs ++ more) k.pending ∙ sym (drop-append-le k.taken bytes more k.within);
      position = k.position;
      through = λ front tail e. rw (append_assoc bytes more tail) (k.through front (more ++ tail) e);
    }
kept start h (given bytes ps s p f e) =
    let k = kept start h f in
    let g = gave s p e in
    let q : PacketAt = g.0 in
    let w = IfOk-at_ok (Whole 0 (length s.pending)) g.1 (first_whole s.pending) in
    rw g.1 (record {
      taken = k.taken + q.end;
      within = omega (arith, k.within, w.ends, ap length k.pending, length-drop k.taken bytes);
      pending = ap (drop q.end) k.pending ∙ drop-drop q.end k.taken bytes;
      position = omega (arith, k.position);
      through = λ front tail i. one_more start bytes ps s k front tail i p q g.1 g.2;
    })

module _ (front bytes : List ℕ) (ps : List Packet) (s : ReaderState) (small : length (front ++ bytes) < 2 ^ 64) (f : Fed (length front) bytes ps s) where
  history : Kept (length front) bytes ps s
  history = kept (length front) (omega (arith, length-append front bytes)) f

  there : ℕ
  there = length front + history.taken

  is_there : s.position ≡ there
  unfolding there
  is_there = omega (arith, history.position, history.within, length-append front bytes)

  -- what the file goes on with
  with_tail : (tail : List ℕ) (e : Result (Unit {0}) Rejection) → Plays (front ++ (bytes ++ tail)) there [] e
      → played (front ++ (bytes ++ tail)) (length front) ≡ record { packets = ps; ending = e }
  unfolding there
  with_tail tail e r = plays_played (go_on (history.through front tail refl) r) ∙ ap (λ qs. record { packets = qs; ending = e }) (append-nil ps)

  at_there : (tail : List ℕ) → drop there (front ++ (bytes ++ tail)) ≡ s.pending ++ tail
  unfolding there
  at_there tail = from_there (length front) bytes ps s history front tail refl

  stops_alike : (e : Rejection) → next_packet s ≡ Err e → (more : List ℕ) → played (front ++ (bytes ++ more)) (length front) ≡ record { packets = ps; ending = Err e }
  stops_alike e h more =
      let m = rejects s e h in
      with_tail more (Err e)
      (stopped there e
      (from_some (front ++ (bytes ++ more)) there (s.pending ++ more) (at_there more) (omega (arith, length-append s.pending more, malformed_some s.pending m.0))
      ∙ ap (placed there) (still_malformed s.pending more m.0) ∙ ap Err (ap BadText (sym is_there) ∙ sym m.1)))

  ends_alike : next_packet s ≡ Ok None → played (front ++ bytes) (length front) ≡ record { packets = ps; ending = ending s }
  ends_alike h =
      let from : drop there (front ++ (bytes ++ [])) ≡ s.pending = at_there [] ∙ append-nil s.pending in
      let steps : Plays (front ++ (bytes ++ [])) there [] (ending s) =
      elim (cases_lt 0 (length s.pending)) [
        | inl l ↦ rw (ends_cut s.pending 0 s.position l)
            (stopped there (PacketCut s.position) (from_some (front ++ (bytes ++ [])) there s.pending from l ∙ ap (placed there) (waits s h) ∙ ap (λ n. Err (PacketCut n)) (sym is_there)))
        | inr l ↦ rw (ends_clean s.pending 0 s.position (omega arith))
            (done there (from_none (front ++ (bytes ++ [])) there s.pending from (omega arith)))
      ] in
      ap (λ bs. played (front ++ bs) (length front)) (sym (append-nil bytes)) ∙ with_tail [] (ending s) steps

  pub reads_alike : ReadsAlike front bytes ps s
  reads_alike = record { ends = ends_alike; stops = stops_alike }

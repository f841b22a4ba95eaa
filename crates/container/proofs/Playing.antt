-- What a file plays, packet by packet: what was written, a front of it where it is cut, and nothing else.
use Rattle.std.proofs.Common.{◌≡◌, ℕ, zero, suc, ◌+◌, ◌-◌, ◌<◌, ◌≤◌, false, cond, eqb, List, [], ◌∷◌, ◌++◌, length, take, drop, IfOk, Some, None, Ok, Err, Result, sym, refl, ap, ◌∙◌, inl, inr, add-zero, arith}
use lib.Seq.{take-append-add}
use Rattle.container.specs.Container.{InRange, Packet, contents, file_bytes, first_packet, moved, packet_at, packet_bytes, placed, play, played, rejected, tag}
use Rattle.container.specs.Promise.{CutPlay}
use Rattle.container.specs.Within.{Whole, WholeAt}
use Rattle.container.specs.declared.fault.Fault.{Fault}
use Rattle.container.specs.declared.fault.Fault.TheVariants.{Cut}
use Rattle.container.specs.declared.packet.PacketAt.{PacketAt}
use Rattle.container.proofs.Groups.{varint_some}
use Rattle.container.proofs.Packets.{at_whole, contents_front, first_whole, from_contents, from_next, from_none, from_some, packet_settled}
use Rattle.container.proofs.ReadBack.{IsWritten, located, located_contents, packet_reads, packet_size, read_written}
use Rattle.frame.specs.declared.rejection.Rejection.{Rejection}
use Rattle.frame.specs.declared.rejection.Rejection.TheVariants.{PacketCut}
use Rattle.std.proofs.ByRecursion.{All-drop}
use Rattle.std.proofs.lemmas.List.{append-nil, drop_at, length-append, length-drop, length-take-le, nil_from_length, take-append-drop, take-append-le}
use Rattle.std.proofs.lemmas.Result.{IfOk-at_ok}
use Rattle.std.proofs.lemmas.Bool.{cases_lt, eq-eqb, ne_eqb}
use Rattle.std.proofs.lemmas.Bool.Decides.{nat_tests}
use Rattle.std.specs.List.{AllByRecursion}

-- THE STEPS of playing a file from a position on
pub data Plays (file : List ℕ) : ℕ → List Packet → Result (Unit {0}) Rejection → Type 0 where
  done : (position : ℕ) → packet_at file position ≡ Ok None → Plays file position [] (Ok tt)
  stopped : (position : ℕ) (e : Rejection) → packet_at file position ≡ Err e → Plays file position [] (Err e)
  next : (position : ℕ) (q : PacketAt) (p : Packet) (ps : List Packet) (e : Result (Unit {0}) Rejection) → packet_at file position ≡ Ok (Some q)
      → contents file q ≡ p → Plays file q.end ps e → Plays file position (p ∷ ps) e

plays_few : {file : List ℕ} {position : ℕ} {ps : List Packet} {e : Result (Unit {0}) Rejection} → Plays file position ps e → length ps ≤ length file - position
plays_few (done position h) = omega arith
plays_few (stopped position e h) = omega arith
plays_few {file} (next position q p ps e h c r) =
    let w = IfOk-at_ok (WholeAt position (length file)) h (at_whole file position) in
    omega (arith, plays_few r, w.begins, w.sized, w.ends)

plays_play : (most : ℕ) {file : List ℕ} {position : ℕ} {ps : List Packet} {e : Result (Unit {0}) Rejection} → Plays file position ps e → length ps < most
    → play most file position ≡ record { packets = ps; ending = e }
unfolding play
plays_play zero r h = absurd (let f : ⊥ = omega arith in f)
plays_play (suc most) (done position i) h = rw i
plays_play (suc most) (stopped position e i) h = rw i
plays_play (suc most) (next position q p ps e i c r) h = rw (i, plays_play most r (omega arith), c)

pub plays_played : {file : List ℕ} {position : ℕ} {ps : List Packet} {e : Result (Unit {0}) Rejection} → Plays file position ps e
    → played file position ≡ record { packets = ps; ending = e }
plays_played {file} r = plays_play (suc (length file)) r (omega (arith, plays_few r))

-- WHERE A PACKET'S BYTES STAND, it is played
module _ (file : List ℕ) (position : ℕ) (p : Packet) (tail : List ℕ) (range : InRange p) (from : drop position file ≡ packet_bytes p ++ tail) where
  packet_steps : (ps : List Packet) (e : Result (Unit {0}) Rejection) → Plays file (position + (located p).end) ps e → Plays file position (p ∷ ps) e
  packet_steps ps e r =
      let some : 0 < length (packet_bytes p ++ tail) =
      omega (arith, length-append (packet_bytes p) tail, packet_size p, varint_some (tag p.number p.key)) in
      next position (moved position (located p)) p ps e
      (from_some file position (packet_bytes p ++ tail) from some ∙ ap (placed position) (packet_reads p tail range))
      (from_contents file position (packet_bytes p ++ tail) from (located p)
      ∙ contents_front (packet_bytes p) tail (located p) (omega arith) (omega (arith, packet_size p)) ∙ located_contents p)
      r

  after_packet : drop (position + (located p).end) file ≡ tail
  after_packet = from_next file position (packet_bytes p ++ tail) from (located p).end ∙ drop_at (packet_bytes p) tail (located p).end (packet_size p)

pub plays_written : (file : List ℕ) (position : ℕ) (ps : List Packet) → AllByRecursion InRange ps → drop position file ≡ file_bytes ps → Plays file position ps (Ok tt)
plays_written file position [] r from = done position (from_none file position [] from refl)
plays_written file position (p ∷ ps) r from =
    packet_steps file position p (file_bytes ps) r.0 from ps (Ok tt)
    (plays_written file (position + (located p).end) ps r.1 (after_packet file position p (file_bytes ps) r.0 from))

-- WHERE A PACKET IS CUT, its front is not read as another
cut_packet : (p : Packet) (kept : ℕ) → InRange p → kept < length (packet_bytes p) → first_packet (take kept (packet_bytes p)) ≡ Err Cut
cut_packet p kept r h = elim (packet_settled (take kept (packet_bytes p)) (drop kept (packet_bytes p))) [
  | inl e ↦ e
  | inr e ↦
      let whole : first_packet (packet_bytes p) ≡ Ok (located p) = ap first_packet (sym (append-nil (packet_bytes p))) ∙ packet_reads p [] r in
      let i : first_packet (take kept (packet_bytes p)) ≡ Ok (located p) =
      sym e ∙ ap first_packet (take-append-drop kept (packet_bytes p)) ∙ whole in
      let w = IfOk-at_ok (Whole 0 (length (take kept (packet_bytes p)))) i (first_whole (take kept (packet_bytes p))) in
      absurd (let f : ⊥ = omega (arith, w.ends, packet_size p, length-take-le kept (packet_bytes p) (omega arith)) in f)
]

abbrev cut_ending : (position kept whole : ℕ) → Result (Unit {0}) Rejection
cut_ending position kept whole = cond (eqb kept whole) (Ok tt) (Err (PacketCut (position + whole)))

record CutSteps (file : List ℕ) (position : ℕ) (ps : List Packet) (kept : ℕ) : Type 0 where
  whole : List Packet
  rest : List Packet
  split : ps ≡ whole ++ rest
  within : length (file_bytes whole) ≤ kept
  beyond : (p : Packet) (qs : List Packet) → rest ≡ p ∷ qs → kept < length (file_bytes whole) + length (packet_bytes p)
  steps : Plays file position whole (cut_ending position kept (length (file_bytes whole)))

cut_first : (file : List ℕ) (position : ℕ) (p : Packet) (ps : List Packet) (kept : ℕ) → InRange p → kept < length (packet_bytes p)
    → drop position file ≡ take kept (packet_bytes p) → CutSteps file position (p ∷ ps) kept
cut_first file position p ps kept r h from = record {
  whole = [];
  rest = p ∷ ps;
  split = refl;
  within = omega arith;
  beyond = λ p' qs e. let f : p ≡ p' = cc in rw (sym f) (omega arith);
  steps = elim (cases_lt 0 kept) [
    | inl k ↦ (let n : eqb kept 0 ≡ false = ne_eqb kept 0 (λ z. (let f : ⊥ = omega arith in f)) in
        rw (n, add-zero position)
        (stopped position (PacketCut position)
        (from_some file position (take kept (packet_bytes p)) from (omega (arith, length-take-le kept (packet_bytes p) (omega arith)))
        ∙ ap (placed position) (cut_packet p kept r h))))
    | inr k ↦ (let z : kept ≡ 0 = omega arith in
        rw (eq-eqb kept 0 z) (done position (from_none file position (take kept (packet_bytes p)) from (length-take-le kept (packet_bytes p) (omega arith) ∙ z))))
  ];
}

same_test : (a k n : ℕ) → eqb (a + k) (a + n) ≡ eqb k n
same_test a k n = grind (arith, nat_tests)

cut_later : (file : List ℕ) (position : ℕ) (p : Packet) (ps : List Packet) (kept : ℕ) (r : InRange p) (from : drop position file ≡ packet_bytes p ++ take kept (file_bytes ps))
    → CutSteps file (position + (located p).end) ps kept → CutSteps file position (p ∷ ps) (length (packet_bytes p) + kept)
cut_later file position p ps kept r from c =
    let n : ℕ = length (file_bytes c.whole) in
    let l : length (packet_bytes p ++ file_bytes c.whole) ≡ length (packet_bytes p) + n = length-append (packet_bytes p) (file_bytes c.whole) in
    let s : position + (located p).end + n ≡ position + (length (packet_bytes p) + n) = omega (arith, packet_size p) in
    record {
      whole = p ∷ c.whole;
      rest = c.rest;
      split = ap (λ qs. p ∷ qs) c.split;
      within = rw l (omega (arith, c.within));
      beyond = λ p' qs e. rw l (omega (arith, c.beyond p' qs e));
      steps =
          rw (l, same_test (length (packet_bytes p)) kept n, sym s)
          (packet_steps file position p (take kept (file_bytes ps)) r from c.whole (cut_ending (position + (located p).end) kept n) c.steps);
    }

plays_cut : (file : List ℕ) (position : ℕ) (ps : List Packet) (kept : ℕ) → AllByRecursion InRange ps → kept ≤ length (file_bytes ps) → drop position file ≡ take kept (file_bytes ps)
    → CutSteps file position ps kept
plays_cut file position [] kept r h from =
    let z : kept ≡ 0 = omega arith in
    record {
      whole = [];
      rest = [];
      split = refl;
      within = omega arith;
      beyond = λ p qs e. let f : ◌≡◌ {A = ℕ} 0 1 = cc in omega arith;
      steps = rw (eq-eqb kept 0 z) (done position (from_none file position (take kept []) from (ap (λ n. length {A = ℕ} (take n [])) z)));
    }
plays_cut file position (p ∷ ps) kept r h from = elim (cases_lt kept (length (packet_bytes p))) [
  | inl l ↦ cut_first file position p ps kept r.0 l (from ∙ take-append-le kept (packet_bytes p) (file_bytes ps) (omega arith))
  | inr l ↦
      let k : ℕ = kept - length (packet_bytes p) in
      let e : kept ≡ length (packet_bytes p) + k = omega arith in
      let f : drop position file ≡ packet_bytes p ++ take k (file_bytes ps) =
      from ∙ ap (λ n. take n (packet_bytes p ++ file_bytes ps)) e ∙ take-append-add (packet_bytes p) (file_bytes ps) k in
      rw e (cut_later file position p ps k r.0 f
      (plays_cut file (position + (located p).end) ps k r.1 (omega (arith, length-append (packet_bytes p) (file_bytes ps)))
      (after_packet file position p (take k (file_bytes ps)) r.0 f)))
]

pub cut_play : (file : List ℕ) (position : ℕ) (ps : List Packet) (kept : ℕ) → AllByRecursion InRange ps → kept ≤ length (file_bytes ps)
    → drop position file ≡ take kept (file_bytes ps) → CutPlay position ps kept (played file position)
cut_play file position ps kept r h from =
    let c = plays_cut file position ps kept r h from in
    record {
      whole = c.whole;
      rest = c.rest;
      split = c.split;
      within = c.within;
      beyond = c.beyond;
      packets = ap (λ x. x.packets) (plays_played c.steps);
      ending = ap (λ x. x.ending) (plays_played c.steps);
    }

-- A FILE THAT PLAYS TO ITS END has the bytes that its packets are written as
pub written_form : (most : ℕ) (file : List ℕ) (position : ℕ) (bytes : List ℕ) → drop position file ≡ bytes → AllByRecursion (λ b. b < 256) bytes → length bytes < most
    → (play most file position).ending ≡ Ok tt → bytes ≡ file_bytes (play most file position).packets
unfolding play
written_form zero file position bytes from below h e = absurd (let f : ⊥ = omega arith in f)
written_form (suc most) file position bytes from below h e = elim (cases_lt 0 (length bytes)) [
  | inr l ↦ rw (from_none file position bytes from (omega arith)) (nil_from_length bytes (omega arith))
  | inl l ↦ go (first_packet bytes) refl (first_whole bytes) (read_written bytes below) (from_some file position bytes from l)
      (λ q w. written_form most file (position + q.end) (drop q.end bytes) (from_next file position bytes from q.end)
      (All-drop (λ b. b < 256) q.end bytes below) (omega (arith, length-drop q.end bytes, w.begins, w.sized)))
]
  where
    go : (r : Result PacketAt Fault) → first_packet bytes ≡ r → IfOk r (Whole 0 (length bytes)) → IfOk r (IsWritten bytes)
        → packet_at file position ≡ placed position (first_packet bytes)
        → ((q : PacketAt) → Whole 0 (length bytes) q → (play most file (position + q.end)).ending ≡ Ok tt
        → drop q.end bytes ≡ file_bytes (play most file (position + q.end)).packets)
        → bytes ≡ file_bytes (play (suc most) file position).packets
    go (Err f) i w written s again =
        let p : packet_at file position ≡ Err (rejected f position) = s ∙ ap (placed position) i in
        let n : ◌≡◌ {A = Result (Unit {0}) Rejection} (Err (rejected f position)) (Ok tt) = rw p at e in
        absurd (let z : ◌≡◌ {A = ℕ} 0 1 = cc in (let b : ⊥ = omega arith in b))
    go (Ok q) i w written s again =
        let p : packet_at file position ≡ Ok (Some (moved position q)) = s ∙ ap (placed position) i in
        let n : (play most file (position + q.end)).ending ≡ Ok tt = rw p at e in
        rw p (written.0 ∙ ap (λ bs. packet_bytes (contents bytes q) ++ bs) (again q w n)
        ∙ ap (λ x. packet_bytes x ++ file_bytes (play most file (position + q.end)).packets) (sym (from_contents file position bytes from q)))

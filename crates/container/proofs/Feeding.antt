-- The calls of a reader that is fed pieces, over the bytes that it holds.
use Rattle.std.proofs.Common.{◌≡◌, ℕ, ◌+◌, ◌-◌, ◌^◌, ◌<◌, ◌≤◌, min, cond, List, ◌++◌, length, take, drop, is_ok, Some, Ok, Err, Result, sym, ap, ◌∙◌, arith}
use lib.Seq.{paste}
use Rattle.container.specs.Container.{first_packet}
use Rattle.container.specs.Reader.{Took, ending, fed, next_packet, state_after}
use Rattle.container.specs.Within.{Whole}
use Rattle.container.specs.declared.fault.Fault.{Fault}
use Rattle.container.specs.declared.packet.PacketAt.{PacketAt}
use Rattle.frame.specs.declared.rejection.Rejection.TheVariants.{PacketCut}
use Rattle.std.proofs.lemmas.List.{drop-drop, length-drop, length-take-le, take_at, take_rest}
use Rattle.std.proofs.lemmas.Bool.{eq-eqb, ne_eqb}
use Rattle.std.specs.List.{between}

-- WHERE THE FILE ENDS
module _ (items : List ℕ) (taken position : ℕ) where
  pub ends_cut : taken < length items → ending (record { pending = drop taken items; position = position }) ≡ Err (PacketCut position)
  ends_cut h = rw (ne_eqb (length (drop taken items)) 0 (λ e. (let f : ⊥ = omega (arith, length-drop taken items) in f)))

  pub ends_clean : length items ≤ taken → ending (record { pending = drop taken items; position = position }) ≡ Ok tt
  ends_clean h = rw (eq-eqb (length (drop taken items)) 0 (omega (arith, length-drop taken items)))

-- A PIECE: what was taken is dropped, and the piece is added if there is memory
module _ (items : List ℕ) (taken n : ℕ) (within : taken ≤ length items) (rest : n ≡ length items - taken) where
  kept : take n (paste items 0 (drop taken items) n) ≡ drop taken items
  kept =
      let l : length (drop taken items) ≡ n = length-drop taken items ∙ sym rest in
      let e : take n (drop taken items) ≡ drop taken items = rw rest (take_rest items taken) in
      take_at (take n (drop taken items)) (drop (0 + n) items) n (ap length e ∙ l) ∙ e

  pub fed_state : {T E : Type 0} (r : Result T E) (piece moved cut last : List ℕ) (position m : ℕ) → m ≡ n
      → moved ≡ paste items 0 (drop taken items) m → cut ≡ take n moved → last ≡ cond (is_ok r) (cut ++ piece) cut
      → record { pending = last; position = position }
      ≡ cond (is_ok r) (fed (record { pending = drop taken items; position = position }) piece) (record { pending = drop taken items; position = position })
  fed_state (Ok u) piece moved cut last position m h e f g = rw (g, f, e, h, kept)
  fed_state (Err u) piece moved cut last position m h e f g = rw (g, f, e, h, kept)

-- THE NEXT PACKET, read in the part of the bytes held that is not taken
module _ (items held : List ℕ) (taken : ℕ) (same : held ≡ items) where
  pub pending_read : {r : Result PacketAt Fault} → r ≡ first_packet (take (length held - taken) (drop taken held)) → first_packet (drop taken items) ≡ r
  pending_read e = sym (e ∙ ap first_packet (take_rest held taken ∙ ap (drop taken) same))

  pub took : (p : PacketAt) → Whole 0 (length (take (length held - taken) (drop taken held))) p → (position position' : ℕ)
      → Took (record { pending = drop taken items; position = position }) (record { pending = drop (taken + p.end) items; position = position' })
      (between (taken + p.start) (taken + p.end) items) p.head
  took p w position position' =
      let l = ap length (take_rest held taken ∙ ap (drop taken) same) in
      let d = length-drop taken items in
      let n : taken + p.end - (taken + p.start) ≡ p.head.length = omega (arith, w.sized) in
      record {
        sized =
            length-take-le (taken + p.end - (taken + p.start)) (drop (taken + p.start) items)
            (omega (arith, w.begins, w.sized, w.ends, length-drop (taken + p.start) items)) ∙ n;
        shorter = omega (arith, w.begins, w.sized, w.ends, length-drop (taken + p.end) items);
      }

module _ (items : List ℕ) (taken position : ℕ) where
  module _ (p : PacketAt) (is : first_packet (drop taken items) ≡ Ok p) where
    pub next_is : next_packet (record { pending = drop taken items; position = position })
        ≡ Ok (Some (record { number = p.head.number; key = p.head.key; bytes = between (taken + p.start) (taken + p.end) items }))
    next_is =
        let e : taken + p.end - (taken + p.start) ≡ p.end - p.start = omega arith in
        rw (is, e, drop-drop p.start taken items)

    pub state_is : state_after (record { pending = drop taken items; position = position })
        ≡ record { pending = drop (taken + p.end) items; position = min (position + p.end) (2 ^ 64 - 1) }
    state_is = rw (is, drop-drop p.end taken items)

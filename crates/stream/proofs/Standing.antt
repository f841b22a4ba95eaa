-- What the code's receiver and its picture's pixels stand for after a packet, in each way that the packet can go.
use Rattle.std.proofs.Common.{◌≡◌, ℕ, ◌+◌, ◌*◌, ◌<◌, ◌≤◌, true, false, List, None, Ok, Result, refl, ◌∙◌, inl, inr, add-one}
use Rattle.std.proofs.lemmas.Bool.{false≢true, true≢false}
use Rattle.std.specs.Result.{is_ok}
use Rattle.block.specs.Picture.{Picture, picture_in}
use Rattle.frame.specs.Frame.{Format, Frame, Holds, Packet, block_count, shows, valid}
use Rattle.frame.specs.Rejection.{number_rejection, plane_rejection}
use Rattle.frame.specs.Show.{ShowSays}
use Rattle.frame.specs.declared.rejection.Plane.TheVariants.{Reference}
use Rattle.frame.specs.declared.show_error.ShowError.{ShowError}
use Rattle.frame.proofs.Edges.{within_edges}
use Rattle.stream.specs.Receiver.{ReceiveSays, marked, receive_rejection, wanted}
use Rattle.stream.specs.declared.receiver.Receiver.{Receiver}
use Rattle.stream.proofs.Steps.{late_ignored, received_invalid, received_shown, received_unwanted}

-- a frame that was shown is valid, and shows the same from every picture that the pixels hold, since it does not look beyond the edges
drawn_shown : (f : Format) (frame : Frame) (pixels : List ℕ) (answer : Result (Unit {0}) ShowError) (pixels₁ : List ℕ) → true ≡ is_ok answer
    → ShowSays None f frame pixels pixels answer pixels₁
    → (valid f frame ≡ true) × ((picture : Picture) → Holds f picture pixels → Holds f (shows f picture frame) pixels₁)
drawn_shown f frame pixels answer pixels₁ ok (inl (e, (v, h))) = (
  v,
  λ picture held. record {
    long = h.long;
    at = λ x y xl yl. h.at x y xl yl ∙ within_edges f frame (picture_in (4 * f.across) pixels) picture v held.at x y xl yl;
  },
)
drawn_shown f frame pixels answer pixels₁ ok (inr (e, v, h)) = absurd (true≢false (rw e at ok))

-- one that was not shown is invalid, and the pixels are as they were
drawn_invalid : (f : Format) (frame : Frame) (pixels : List ℕ) (answer : Result (Unit {0}) ShowError) (pixels₁ : List ℕ) → false ≡ is_ok answer
    → ShowSays None f frame pixels pixels answer pixels₁ → (valid f frame ≡ false) × (pixels₁ ≡ pixels)
drawn_invalid f frame pixels answer pixels₁ ok (inl (e, h)) = absurd (false≢true (rw e at ok))
drawn_invalid f frame pixels answer pixels₁ ok (inr (e, v, h)) = (v, h)

module _ (f : Format) (r : Receiver) (p : Packet) (pixels : List ℕ)
    (fits : None ≡ plane_rejection (16 * block_count f) Reference pixels) (numbered : None ≡ number_rejection p.number) where
  abbrev Says : Receiver → List ℕ → Type 0
  Says r₁ pixels₁ = ReceiveSays (receive_rejection (16 * block_count f) pixels p.number) f r p pixels (Ok r₁) pixels₁

  abbrev Drawn : Result (Unit {0}) ShowError → List ℕ → Type 0
  Drawn answer pixels₁ = ShowSays (plane_rejection (16 * block_count f) Reference pixels) f p.frame pixels pixels answer pixels₁

  accepted : receive_rejection (16 * block_count f) pixels p.number ≡ None
  accepted = rw (← fits, ← numbered)

  -- a late packet changes nothing
  pub says_late : p.number < r.next → Says r pixels
  says_late late = rw accepted (λ picture held.
      rw (late_ignored f (marked r picture) p late) (record { sure = refl; next = refl; picture = held }))

  module _ (timely : r.next ≤ p.number) where
    pub says_shown : (answer : Result (Unit {0}) ShowError) (pixels₁ : List ℕ) → true ≡ is_ok answer → ((picture : Picture) → wanted (marked r picture) p ≡ true)
        → Drawn answer pixels₁ → Says (record { sure = true; next = p.number + 1 }) pixels₁
    says_shown answer pixels₁ ok w s = rw accepted (λ picture held.
        let d = drawn_shown f p.frame pixels answer pixels₁ ok (rw (← fits) at s) in
        rw (received_shown f (marked r picture) p timely d.0 (w picture)) (record { sure = refl; next = add-one _; picture = d.1 picture held }))

    pub says_invalid : (answer : Result (Unit {0}) ShowError) (pixels₁ : List ℕ) → false ≡ is_ok answer
        → Drawn answer pixels₁ → Says (record { sure = false; next = r.next }) pixels₁
    says_invalid answer pixels₁ ok s = rw accepted (λ picture held.
        let d = drawn_invalid f p.frame pixels answer pixels₁ ok (rw (← fits) at s) in
        rw (received_invalid f (marked r picture) p timely d.0, d.1) (record { sure = refl; next = refl; picture = held }))

    pub says_unwanted : ((picture : Picture) → wanted (marked r picture) p ≡ false) → Says (record { sure = false; next = r.next }) pixels
    says_unwanted w = rw accepted (λ picture held.
        rw (received_unwanted f (marked r picture) p timely (w picture)) (record { sure = refl; next = refl; picture = held }))

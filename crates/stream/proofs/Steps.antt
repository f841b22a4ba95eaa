-- The ways of a packet: late, shown, or not shown; each as an equation.
use Rattle.std.proofs.Common.{◌≡◌, suc, ◌≤◌, Bool, true, false, cond, ltb, sym, refl, arith}
use Rattle.std.proofs.lemmas.Bool.{and_from, and_right, eq-eqb, le-ltb, lt-ltb, or_left, or_right, true≢false}
use Rattle.frame.specs.Frame.{Format, Packet, shows, valid}
use Rattle.stream.specs.Promise.{GoesOn, LateIgnored, NextMoves, Recovers}
use Rattle.stream.specs.Receiver.{ReceiverState, received, wanted}

-- what a receiver is after it showed a packet, and after it did not
abbrev pub showing : Format → ReceiverState → Packet → ReceiverState
showing f r p = record { picture = shows f r.picture p.frame; sure = true; next = suc p.number }

abbrev pub staying : ReceiverState → ReceiverState
staying r = record { picture = r.picture; sure = false; next = r.next }

-- a packet whose number is below the expected one is dropped by the first test
pub late_ignored : LateIgnored
unfolding received
late_ignored f r p l = rw (lt-ltb p.number r.next l)

module _ (f : Format) (r : ReceiverState) (p : Packet) (timely : r.next ≤ p.number) where
  pub received_shown : valid f p.frame ≡ true → wanted r p ≡ true → received f r p ≡ showing f r p
  unfolding received
  received_shown v w = rw (le-ltb p.number r.next timely, v, w)

  pub received_invalid : valid f p.frame ≡ false → received f r p ≡ staying r
  unfolding received
  received_invalid v = rw (le-ltb p.number r.next timely, v)

  pub received_unwanted : wanted r p ≡ false → received f r p ≡ staying r
  unfolding received
  received_unwanted w = rw (le-ltb p.number r.next timely, w, and_right (valid f p.frame) false refl)

-- a key frame is always wanted
pub recovers : Recovers
recovers f r p v k timely =
    rw (received_shown f r p timely v (or_left p.frame.header.key _ k)) (refl, refl)

-- and so is the expected frame, where the receiver is sure
pub goes_on : GoesOn
goes_on f r p v s e =
    rw (received_shown f r p (omega arith) v (or_right p.frame.header.key _ (and_from r.sure _ s (eq-eqb p.number r.next (sym e))))) (refl, refl)

-- of the three ways, the one that moves the number is the one that makes it sure
pub next_moves : NextMoves
unfolding received
next_moves f r p = go (ltb p.number r.next) _
  where
    go : (late shown : Bool) → (cond late r (cond shown (showing f r p) (staying r))).sure ≡ false →
        (cond late r (cond shown (showing f r p) (staying r))).next ≡ r.next
    go true shown unsure = refl
    go false true unsure = absurd (true≢false unsure)
    go false false unsure = refl

-- What a receiver shows of the video whose packets it has received, whichever they were.
use Rattle.std.proofs.Common.{◌≡◌, ℕ, suc, Bool, true, false, cond, ◌&&◌, eqb, ltb, ◌⊎◌, [], ◌∷◌, refl, ap, ◌∙◌, inl, inr, arith}
use Rattle.std.proofs.lemmas.Bool.{and_parts, eqb-true, false≢true, or_cases}
use Rattle.frame.specs.Frame.{Format, Packet, shows, valid}
use Rattle.frame.proofs.Keys.{key_alone}
use Rattle.stream.specs.Promise.{AlwaysSome, LensToEye, ShownIsTrue, SureIsTrue, SureOfSome, none, more}
use Rattle.stream.specs.Receiver.{ReceiverState, after_packets, received, start_receiver, wanted}
use Rattle.frame.specs.Video.{Video, picture_after}
use Rattle.stream.proofs.Steps.{showing, staying}

-- its picture is the video's after all frames before the one that it expects
abbrev Knows : Format → Video → ReceiverState → Type 0
Knows f video r = r.picture ≡ picture_after f video r.next

module _ (f : Format) (video : Video) (r : ReceiverState) (p : Packet) (sent : p.frame ≡ video p.number) (k : Knows f video r) where
  -- a key frame shows the same whatever came before; the expected frame is made from the video's own picture
  shows_next : (p.frame.header.key ≡ true) ⊎ ((r.sure && eqb p.number r.next) ≡ true) → Knows f video (showing f r p)
  unfolding picture_after
  shows_next (inl key) =
      key_alone f p.frame r.picture (picture_after f video p.number) key
      ∙ ap (shows f (picture_after f video p.number)) sent
  shows_next (inr expected) =
      let e = eqb-true p.number r.next (and_parts r.sure (eqb p.number r.next) expected).1 in
      cc

  knows_received : Knows f video (received f r p)
  unfolding received
  knows_received = go (ltb p.number r.next) _ refl
    where
      go : (late shown : Bool) → (valid f p.frame && wanted r p) ≡ shown → Knows f video (cond late r (cond shown (showing f r p) (staying r)))
      go true shown e = k
      go false true e = shows_next (or_cases _ _ (and_parts (valid f p.frame) (wanted r p) e).1)
      go false false e = k

pub shown_is_true : ShownIsTrue
unfolding after_packets start_receiver picture_after
shown_is_true f video _ none = refl
shown_is_true f video _ (more p ps sent before) = knows_received f video (after_packets f ps) p sent (shown_is_true f video ps before)

pub sure_is_true : SureIsTrue
sure_is_true f video ps sent sure = shown_is_true f video ps sent

-- of the ways of a packet, the one that makes it sure moves the number
some_received : (f : Format) (r : ReceiverState) (p : Packet) → (r.sure ≡ true → (n : ℕ) × (r.next ≡ suc n))
    → (received f r p).sure ≡ true → (n : ℕ) × ((received f r p).next ≡ suc n)
unfolding received
some_received f r p before = go (ltb p.number r.next) (valid f p.frame && wanted r p)
  where
    go : (late shown : Bool) → (cond late r (cond shown (showing f r p) (staying r))).sure ≡ true
        → (n : ℕ) × ((cond late r (cond shown (showing f r p) (staying r))).next ≡ suc n)
    go true shown sure = before sure
    go false true sure = (p.number, refl)
    go false false sure = absurd (false≢true sure)

pub sure_of_some : SureOfSome
unfolding after_packets start_receiver
sure_of_some f [] sure = absurd (false≢true sure)
sure_of_some f (p ∷ ps) sure = some_received f (after_packets f ps) p (sure_of_some f ps) sure

pub always_some : AlwaysSome
always_some f video ps sent = ((after_packets f ps).next, omega arith, shown_is_true f video ps sent)

-- the picture is the video's after the frame `last`, which is near its source
pub lens_to_eye : LensToEye
lens_to_eye f video sources n ps last follows sent sure next below =
    rw (sure_is_true f video ps sent sure, next) (follows last below)

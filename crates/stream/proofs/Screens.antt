-- A screen made, and after a packet; and what it is sure of, by what is known of receivers.
use Rattle.std.proofs.Common.{◌≡◌, ℕ, zero, suc, ◌*◌, ◌≤◌, true, false, List, [], ◌∷◌, ◌++◌, length, get_or, take, drop, replicate, Some, None, Ok, Err, Option, Result, sym, refl, ap, ◌∙◌, arith, length-take-le, take_at}
use Rattle.std.proofs.lemmas.Simd.{length-replicate}
use Rattle.std.proofs.lemmas.List.{take-append-drop}
use Rattle.std.proofs.lemmas.Bool.{eq-eqb}
use Rattle.block.specs.Picture.{black}
use Rattle.frame.specs.Frame.{Format, Packet, block_count}
use Rattle.frame.specs.Rejection.{number_rejection}
use Rattle.frame.specs.declared.rejection.Rejection.{Rejection}
use Rattle.stream.specs.Receiver.{ReceiveSays, ReceiverState, Stands, after_packets, marked, receive_rejection, start_receiver}
use Rattle.stream.specs.Screen.{FollowsSource, Received, ScreenSays, ShowsVideo, number_shown, picture_shown, screen_format, screen_pixels}
use Rattle.frame.specs.Video.{Video, picture_after}
use Rattle.stream.specs.declared.receiver.Receiver.{Receiver}
use Rattle.stream.specs.declared.screen.Screen.{Screen}
use Rattle.stream.proofs.Knowing.{shown_is_true, sure_of_some}

-- AT FIRST

zeros : (n m k : ℕ) → get_or {A = ℕ} (take m (replicate n 0)) k 0 ≡ 0
zeros n zero k = refl
zeros zero (suc m) k = refl
zeros (suc n) (suc m) zero = refl
zeros (suc n) (suc m) (suc k) = zeros n m k

pub starts : (f : Format) (r : Receiver) (n : ℕ) → r.sure ≡ false → r.next ≡ 0 → 16 * block_count f ≤ n
    → Stands f r (take (16 * block_count f) (replicate n 0)) (after_packets f [])
unfolding after_packets start_receiver black
starts f r n unsure first room = record {
  sure = unsure;
  next = first;
  picture = record {
    long = length-take-le (16 * block_count f) (replicate n 0) (rw (length-replicate {A = ℕ} n 0) room);
    at = λ x y xl yl. zeros n (16 * block_count f) _;
  };
}

-- ONE PACKET MORE

-- the part of the pixels that is lent is as long as a picture, so that only the number can be rejected
lent_rejection : (count lent : ℕ) (pixels : List ℕ) (number : ℕ) → lent ≡ count → lent ≤ length pixels
    → receive_rejection count (take lent pixels) number ≡ number_rejection number
lent_rejection count lent pixels number whole room = rw (eq-eqb (length (take lent pixels)) count (length-take-le lent pixels room ∙ whole))

-- the marks and the picture that they stand for are the receiver
marked_is : (f : Format) (r : Receiver) (pixels : List ℕ) (s : ReceiverState) → Stands f r pixels s → marked r s.picture ≡ s
marked_is f r pixels s st i = record { picture = s.picture; sure = st.sure i; next = st.next i }

module _ (s : Screen) (p : Packet) (lent : ℕ) (part : List ℕ) (whole : lent ≡ 16 * block_count (screen_format s)) (room : lent ≤ length s.pixels) where
  -- the screen when the part that was lent is back
  abbrev back : Receiver → Screen
  back r = record { format = s.format; receiver = r; pixels = part ++ drop lent s.pixels }

  -- what was said of the part, by what is rejected
  abbrev Said : Option Rejection → Result Receiver Rejection → Type 0
  Said e answer = ReceiveSays e (screen_format s) s.receiver p (take lent s.pixels) answer part

  rejection : receive_rejection (16 * block_count (screen_format s)) (take lent s.pixels) p.number ≡ number_rejection p.number
  rejection = lent_rejection (16 * block_count (screen_format s)) lent s.pixels p.number whole room

  one_more : (r : Receiver) → Said None (Ok r) → (ps : List Packet) → Received s ps → Received (back r) (p ∷ ps)
  unfolding after_packets
  one_more r h ps st =
      let before : ReceiverState = after_packets (screen_format s) ps in
      let after = h before.picture (rw whole st.picture) in
      rw (take_at part (drop lent s.pixels) (16 * block_count (screen_format s)) after.picture.long)
      (rw (marked_is (screen_format s) s.receiver (screen_pixels s) before st) at after)

  pub screen_received : (r : Receiver) → Said (receive_rejection (16 * block_count (screen_format s)) (take lent s.pixels) p.number) (Ok r)
      → ScreenSays (number_rejection p.number) s p (Ok tt) (back r)
  screen_received r = rw rejection (go (number_rejection p.number))
    where
      go : (e : Option Rejection) → Said e (Ok r) → ScreenSays e s p (Ok tt) (back r)
      go None h = (refl, refl, one_more r h)
      go (Some e) h = absurd (let z : ◌≡◌ {A = ℕ} 0 1 = cc in let y : ⊥ = omega arith in y)

  pub screen_rejected : (x : Rejection) → Said (receive_rejection (16 * block_count (screen_format s)) (take lent s.pixels) p.number) (Err x)
      → ScreenSays (number_rejection p.number) s p (Err x) (back s.receiver)
  screen_rejected x = rw rejection (go (number_rejection p.number))
    where
      go : (e : Option Rejection) → Said e (Err x) → ScreenSays e s p (Err x) (back s.receiver)
      go None h = absurd h
      go (Some e) (rejected, same) = (
        cc,
        ap (λ (pixels : List ℕ). record { format = s.format; receiver = s.receiver; pixels = pixels }) (rw same (take-append-drop lent s.pixels)),
      )

-- WHAT IT SHOWS

-- whatever a receiver shows is the video's
pub shows_before : (s : Screen) → ShowsVideo s (λ video. picture_after (screen_format s) video s.receiver.next)
shows_before s video ps st sent = rw (st.next, ← shown_is_true (screen_format s) video ps sent) st.picture

number_picture : (f : Format) (video : Video) (next : ℕ) → picture_shown f video (number_shown next) ≡ picture_after f video next
unfolding picture_after
number_picture f video zero = refl
number_picture f video (suc n) = refl

pub shows_number : (s : Screen) (o : Option ℕ) → o ≡ number_shown s.receiver.next → ShowsVideo s (λ video. picture_shown (screen_format s) video o)
shows_number s o e video ps st sent = rw (e, number_picture (screen_format s) video s.receiver.next) (shows_before s video ps st sent)

pub follows_source : (s : Screen) → FollowsSource s
follows_source s video sources n ps last follows st sent next below x y xl yl =
    let shown = shows_before s video ps st sent in
    rw (shown.at x y xl yl, next) (follows last below x y xl yl)

pub some_shown : (s : Screen) → s.receiver.sure ≡ true → (ps : List Packet) → Received s ps → (n : ℕ) × (s.receiver.next ≡ suc n)
some_shown s sure ps st =
    let w = sure_of_some (screen_format s) ps (sym st.sure ∙ sure) in
    (w.0, st.next ∙ w.1)

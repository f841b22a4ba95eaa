-- An encoder made, and after one frame more: it goes on from the picture that its frames show.
use Rattle.std.proofs.Common.{◌≡◌, ℕ, zero, suc, ◌+◌, ◌*◌, ◌/◌, ◌<◌, ◌≤◌, Bool, ◌||◌, eqb, List, ◌++◌, length, get_or, take, drop, replicate, Some, None, Ok, Err, Option, Result, refl, ap, ◌∙◌, add-one, arith, length-take-le, take_at}
use Rattle.std.proofs.lemmas.Simd.{length-replicate}
use Rattle.std.proofs.lemmas.Bool.{eq-eqb, or_right}
use Rattle.block.specs.Picture.{Picture, black, picture_in}
use Rattle.frame.specs.Frame.{Format, Frame, Holds, block_count, shows}
use Rattle.frame.specs.Rejection.{number_rejection}
use Rattle.frame.specs.Video.{Near, Video, picture_after}
use Rattle.frame.specs.declared.rejection.Rejection.{Rejection}
use Rattle.frame.proofs.Edges.{within_edges}
use Rattle.encoder.specs.Code.{CodeSays, Coded, frame_of, pictures_rejection}
use Rattle.encoder.specs.Promise.{PictureNear}
use Rattle.encoder.specs.Session.{Made, PushSays, encoder_format, encoder_picture, encoder_pixels, push_rejection, put_at}
use Rattle.encoder.specs.declared.session.Encoder.{Encoder}
use Rattle.encoder.proofs.Lengthening.{exact_at_one, follows_more, picture_more, whole_more}

-- AT FIRST

zeros : (n m k : ℕ) → get_or {A = ℕ} (take m (replicate n 0)) k 0 ≡ 0
zeros n zero k = refl
zeros zero (suc m) k = refl
zeros (suc n) (suc m) zero = refl
zeros (suc n) (suc m) (suc k) = zeros n m k

pub starts : (e : Encoder) (room : ℕ) → e.next ≡ 0 → e.pixels ≡ replicate room 0 → 16 * block_count (encoder_format e) ≤ room
    → (video : Video) (sources : ℕ → Picture) → Made e video sources 0
unfolding picture_after black
starts e room first zero-pixels fits video sources = record {
  next = first;
  reference = rw zero-pixels (record {
    long = length-take-le (16 * block_count (encoder_format e)) (replicate room 0) (rw (length-replicate {A = ℕ} room 0) fits);
    at = λ x y xl yl. zeros room (16 * block_count (encoder_format e)) _;
  });
  whole = record { first = λ l. absurd (let z : ⊥ = omega arith in z); valid = λ i l. absurd (let z : ⊥ = omega arith in z) };
  follows = λ i l. absurd (let z : ⊥ = omega arith in z);
}

-- WHAT IT SHOWS

pub picture_near : PictureNear
picture_near e video sources n m =
    let f : Format = encoder_format e in
    let near : Near f (f.step / 2) (encoder_picture e (encoder_pixels e)) (sources n) = λ x y xl yl. rw (m.reference.at x y xl yl) (m.follows n (omega arith) x y xl yl) in
    (near, λ one. exact_at_one f (encoder_picture e (encoder_pixels e)) (sources n) one near)

-- ONE FRAME MORE

-- the frame shows the same from every picture that the pixels hold, since it does not look beyond the edges
module _ (f : Format) (key : Bool) (source reference bytes output : List ℕ) (coded : Coded f key source reference bytes output) (picture : Picture) (held : Holds f picture reference) where
  abbrev frame : Frame
  frame = frame_of key bytes

  same : (x y : ℕ) → x < 4 * f.across → y < 4 * f.down → picture_in (4 * f.across) output x y ≡ shows f picture frame x y
  same x y xl yl = coded.holds.at x y xl yl ∙ within_edges f frame (picture_in (4 * f.across) reference) picture coded.valid held.at x y xl yl

  shows_coded : Holds f (shows f picture frame) output
  shows_coded = record { long = coded.holds.long; at = same }

  shows_near : Near f (f.step / 2) (shows f picture frame) (picture_in (4 * f.across) source)
  shows_near x y xl yl = rw (← same x y xl yl) (coded.close x y xl yl)

module _ (e : Encoder) (source : List ℕ) (asked key : Bool) (buffer buffer₁ scratch part : List ℕ) (lent : ℕ)
    (is_key : key ≡ (asked || eqb e.next 0)) (early : None ≡ number_rejection e.next)
    (whole : lent ≡ 16 * block_count (encoder_format e)) (room : lent ≤ length e.pixels) (scratch_room : lent ≤ length scratch) where
  abbrev f : Format
  f = encoder_format e

  -- what was said of the parts that were lent, by what is rejected
  abbrev Said : Option Rejection → Result ℕ Rejection → Type 0
  Said x r = CodeSays x f key source (take lent e.pixels) buffer (take lent scratch) r buffer₁ part

  -- these are as long as a picture, so that only the source can be rejected
  rejection : pictures_rejection (16 * block_count f) source (take lent e.pixels) (take lent scratch) ≡ push_rejection e source
  unfolding push_rejection
  rejection =
      rw (
        eq-eqb (length (take lent e.pixels)) (16 * block_count f) (length-take-le lent e.pixels room ∙ whole),
        eq-eqb (length (take lent scratch)) (16 * block_count f) (length-take-le lent scratch scratch_room ∙ whole),
        ← early,
      )

  pub push_rejected : (x : Rejection) → Said (pictures_rejection (16 * block_count f) source (take lent e.pixels) (take lent scratch)) (Err x)
      → PushSays (push_rejection e source) e source asked buffer (Err x) e buffer₁
  push_rejected x = rw rejection (go (push_rejection e source))
    where
      go : (o : Option Rejection) → Said o (Err x) → PushSays o e source asked buffer (Err x) e buffer₁
      go None h = (h.0, h.1, refl, h.2, rw (← is_key, ← whole) h.4)
      go (Some y) h = (cc, refl, h.1)

  module _ (copied : List ℕ) (copy : copied ≡ part) (k : ℕ) where
    -- the encoder when the scratch picture is copied to the part that was lent
    abbrev gone_on : Encoder
    gone_on = record { format = e.format; next = e.next + 1; pixels = copied ++ drop lent e.pixels }

    abbrev bytes : List ℕ
    bytes = take k buffer₁

    module _ (coded : Coded f key source (take lent e.pixels) bytes part) where
      shown : encoder_pixels gone_on ≡ part
      shown =
          rw copy (take_at part (drop lent e.pixels) (16 * block_count f) coded.holds.long)

      whole_coded : Coded f key source (encoder_pixels e) bytes (encoder_pixels gone_on)
      whole_coded = rw (shown, ← whole) coded

      made_more : (video : Video) (sources : ℕ → Picture) (n : ℕ) → Made e video sources n
          → Made gone_on (put_at n (frame_of key bytes) video) (put_at n (encoder_picture e source) sources) (suc n)
      made_more video sources n m =
          let new : Frame = frame_of key bytes in
          let held = shows_coded f key source (encoder_pixels e) bytes (encoder_pixels gone_on) whole_coded (picture_after f video n) m.reference in
          let near = shows_near f key source (encoder_pixels e) bytes (encoder_pixels gone_on) whole_coded (picture_after f video n) m.reference in
          record {
            next = ap (λ i. i + 1) m.next ∙ add-one n;
            reference = rw (picture_more f video n new) held;
            whole = whole_more f video n new m.whole coded.valid (λ none. is_key ∙ or_right asked _ (eq-eqb e.next 0 (m.next ∙ none)));
            follows = follows_more f video n new sources (encoder_picture e source) m.follows near;
          }

    pub push_done : Said (pictures_rejection (16 * block_count f) source (take lent e.pixels) (take lent scratch)) (Ok k)
        → PushSays (push_rejection e source) e source asked buffer (Ok (record { number = e.next; key = key; length = k })) gone_on buffer₁
    push_done = rw rejection (go (push_rejection e source))
      where
        go : (o : Option Rejection) → Said o (Ok k) → PushSays o e source asked buffer (Ok (record { number = e.next; key = key; length = k })) gone_on buffer₁
        go None h =
            let coded = whole_coded h.3 in
            record {
              number = refl;
              key = is_key;
              fits = h.0;
              long = h.1;
              after = h.2;
              format = refl;
              coded = coded;
              made = made_more h.3;
              near = coded.close;
              exact = λ one. exact_at_one f (encoder_picture e (encoder_pixels gone_on)) (encoder_picture e source) one coded.close;
            }
        go (Some x) h = absurd (let z : ◌≡◌ {A = ℕ} 0 1 = cc in let y : ⊥ = omega arith in y)

pub number_rejected : (e : Encoder) (source : List ℕ) (asked : Bool) (buffer : List ℕ) (x : Rejection) → Some x ≡ number_rejection e.next
    → PushSays (push_rejection e source) e source asked buffer (Err x) e buffer
unfolding push_rejection
number_rejected e source asked buffer x late = rw (← late) (refl, refl, refl)

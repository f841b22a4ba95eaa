-- A video with one frame more: those before it and their pictures are as they were.
use Rattle.std.proofs.Common.{◌≡◌, ℕ, zero, suc, ◌/◌, ◌<◌, ◌≤◌, true, refl, ap, ◌∙◌, arith}
use Rattle.block.specs.Picture.{Picture}
use Rattle.block.specs.Transform.{distance}
use Rattle.frame.specs.Frame.{Format, Frame, shows, valid}
use Rattle.frame.specs.Video.{Follows, Near, Video, Whole, picture_after}
use Rattle.frame.proofs.Blocks.{last_or_before}
use Rattle.encoder.specs.Promise.{FramesKept, LosslessAtOne}
use Rattle.encoder.specs.Session.{Exact, put_at}
use Rattle.encoder.proofs.Sequences.{put_before, put_here}

-- a picture is made of the frames before it
pictures_same : (f : Format) (video video' : Video) (n : ℕ) → ((i : ℕ) → i < n → video i ≡ video' i) → picture_after f video n ≡ picture_after f video' n
unfolding picture_after
pictures_same f video video' zero same = refl
pictures_same f video video' (suc n) same =
    let before = pictures_same f video video' n (λ i l. same i (omega arith)) in
    let last = same n (omega arith) in
    cc

pictures_kept : (f : Format) (video : Video) (n : ℕ) (frame : Frame) (i : ℕ) → i ≤ n → picture_after f (put_at n frame video) i ≡ picture_after f video i
pictures_kept f video n frame i l = pictures_same f (put_at n frame video) video i (λ k kl. put_before Frame video n frame k (omega arith))

pub frames_kept : FramesKept
frames_kept = record { here = put_here Frame; before = put_before Frame; pictures = pictures_kept; source = put_here Picture; sources = put_before Picture }

-- ONE FRAME MORE

module _ (f : Format) (video : Video) (n : ℕ) (frame : Frame) where
  pub picture_more : picture_after f (put_at n frame video) (suc n) ≡ shows f (picture_after f video n) frame
  unfolding picture_after
  picture_more =
      let before = pictures_kept f video n frame n (omega arith) in
      let last = put_here Frame video n frame in
      cc

  pub whole_more : Whole f video n → valid f frame ≡ true → (n ≡ 0 → frame.header.key ≡ true) → Whole f (put_at n frame video) (suc n)
  whole_more w v key = record {
    first = λ _. last_or_before (λ i. i ≡ 0 → (put_at n frame video i).header.key ≡ true) n
        (λ i l e. ap (λ (g : Frame). g.header.key) (put_before Frame video n frame i l) ∙ ap (λ k. (video k).header.key) e ∙ w.first (omega arith))
        (λ e. ap (λ (g : Frame). g.header.key) (put_here Frame video n frame) ∙ key e) 0 (omega arith) refl;
    valid = last_or_before (λ i. valid f (put_at n frame video i) ≡ true) n
        (λ i l. ap (valid f) (put_before Frame video n frame i l) ∙ w.valid i l)
        (ap (valid f) (put_here Frame video n frame) ∙ v);
  }

  pub follows_more : (sources : ℕ → Picture) (source : Picture) → Follows f video sources n → Near f (f.step / 2) (shows f (picture_after f video n) frame) source
      → Follows f (put_at n frame video) (put_at n source sources) (suc n)
  follows_more sources source follows near = last_or_before (λ i. Near f (f.step / 2) (picture_after f (put_at n frame video) (suc i)) (put_at n source sources i)) n
      (λ i l. rw (pictures_kept f video n frame (suc i) (omega arith), put_before Picture sources n source i l) (follows i l))
      (rw (picture_more, put_here Picture sources n source) near)

-- HALF A STEP OF 1

-- pixels no further apart than half of 1 are the same
pub exact_at_one : (f : Format) (a b : Picture) → f.step ≡ 1 → Near f (f.step / 2) a b → Exact f a b
unfolding distance
exact_at_one f a b one near x y xl yl = omega (arith, near x y xl yl)

pub lossless_at_one : LosslessAtOne
lossless_at_one f video sources n one follows i l = exact_at_one f (picture_after f video (suc i)) (sources i) one (follows i l)

-- What the encoder promises, of every sequence of pictures. Each is a statement, and a function's contract asks for its proof.
use Rattle.std.specs.Prelude.{◌≡◌, ℕ, suc, ◌*◌, ◌<◌, ◌≤◌, Bool}
use Rattle.block.specs.Picture.{Picture}
use Rattle.frame.specs.Frame.{Format, Frame}
use Rattle.frame.specs.Video.{Follows, Video, Whole, picture_after}
use Rattle.encoder.specs.Session.{Exact, ShowsLast, encoder_pixels, put_at}
use Rattle.encoder.specs.declared.session.Encoder.{Encoder}

-- EVERY SEQUENCE OF PICTURES HAS A VIDEO THAT FOLLOWS IT WITHIN HALF A STEP, WITH KEY FRAMES WHEREVER ONE LIKES (the first is one in any case):
-- whatever a block is predicted from, be it a flat 0, some levels bring it within half a step of its source, and every block
-- so chosen can be said in bits, in a key frame and in any other.
abbrev pub Faithful : Type 0
Faithful =
    (f : Format) (sources : ℕ → Picture) (keys : ℕ → Bool) → 1 ≤ f.step →
    ((n x y : ℕ) → x < 4 * f.across → y < 4 * f.down → sources n x y < 256) →
    (video : Video) × ((n : ℕ) → Whole f video n) × ((n : ℕ) → Follows f video sources n) × ((i : ℕ) → 1 ≤ i → (video i).header.key ≡ keys i)

-- AT A STEP OF 1 A VIDEO THAT FOLLOWS ITS SOURCES SHOWS THEM, PIXEL FOR PIXEL, since half a step is then no distance at all.
abbrev pub LosslessAtOne : Type 0
LosslessAtOne =
    (f : Format) (video : Video) (sources : ℕ → Picture) (n : ℕ) → f.step ≡ 1 → Follows f video sources n →
    (i : ℕ) → i < n → Exact f (picture_after f video (suc i)) (sources i)

-- WHAT AN ENCODER SHOWS IS WITHIN HALF A STEP OF ITS LAST SOURCE, and that source at a step of 1: it goes on from the picture
-- that its frames show, and these follow their sources.
abbrev pub PictureNear : Type 0
PictureNear = (e : Encoder) → ShowsLast e (encoder_pixels e)

-- A FRAME PUT INTO A VIDEO IS THERE AND CHANGES NONE BEFORE IT, nor the pictures that these show: what was made and sent stays as it is.
pub record FramesKept : Type 0 where
  pub here : (video : Video) (n : ℕ) (frame : Frame) → put_at n frame video n ≡ frame
  pub before : (video : Video) (n : ℕ) (frame : Frame) (i : ℕ) → i < n → put_at n frame video i ≡ video i
  pub pictures : (f : Format) (video : Video) (n : ℕ) (frame : Frame) (i : ℕ) → i ≤ n → picture_after f (put_at n frame video) i ≡ picture_after f video i
  pub source : (sources : ℕ → Picture) (n : ℕ) (picture : Picture) → put_at n picture sources n ≡ picture
  pub sources : (sources : ℕ → Picture) (n : ℕ) (picture : Picture) (i : ℕ) → i < n → put_at n picture sources i ≡ sources i

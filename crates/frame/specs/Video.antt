-- Videos: frames one after the other, and the pictures that they show. Assumes nothing: these are definitions.
use Rattle.std.specs.Prelude.{◌≡◌, ℕ, zero, suc, ◌*◌, ◌/◌, ◌<◌, ◌≤◌, true}
use Rattle.block.specs.Picture.{Picture, black}
use Rattle.block.specs.Transform.{distance}
use Rattle.frame.specs.Frame.{Format, Frame, shows, valid}

-- the frame with each sequence number
abbrev pub Video : Type 0
Video = ℕ → Frame

-- what is shown after so many frames: each picture is made from the one before, the first from black
unfoldable pub picture_after : Format → Video → ℕ → Picture
picture_after f video zero = black
picture_after f video (suc n) = shows f (picture_after f video n) (video n)

-- the first n frames are those of a video: all are valid, and the first is a key frame
pub record Whole (f : Format) (video : Video) (n : ℕ) : Type 0 where
  pub first : 1 ≤ n → (video 0).header.key ≡ true
  pub valid : (i : ℕ) → i < n → valid f (video i) ≡ true

-- two pictures are nowhere further apart than so much
abbrev pub Near : Format → (most : ℕ) → (a b : Picture) → Type 0
Near f most a b = (x y : ℕ) → x < 4 * f.across → y < 4 * f.down → distance (a x y) (b x y) ≤ most

-- the pictures of the first n frames are within half a step of their sources
abbrev pub Follows : Format → Video → (sources : ℕ → Picture) → ℕ → Type 0
Follows f video sources n = (i : ℕ) → i < n → Near f (f.step / 2) (picture_after f video (suc i)) (sources i)

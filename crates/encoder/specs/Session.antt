-- What an encoder that keeps its own reference picture has been through, and what one frame more answers and leaves.
-- Assumes nothing: these are definitions.
use Rattle.std.specs.Prelude.{◌≡◌, ℕ, suc, ◌*◌, ◌/◌, ◌<◌, ◌≤◌, Bool, cond, ◌||◌, List, length, take, Some, None, Ok, Err, Option, Result, ◌==◌, slice_index}
use Rattle.block.specs.Picture.{Picture, picture_in}
use Rattle.frame.specs.Frame.{Format, Holds, block_count}
use Rattle.frame.specs.Rejection.{number_rejection, or_else, unless}
use Rattle.frame.specs.Show.{format_of}
use Rattle.frame.specs.Video.{Follows, Near, Video, Whole, picture_after}
use Rattle.frame.specs.declared.rejection.Rejection.{Rejection}
use Rattle.frame.specs.declared.rejection.Rejection.TheVariants.{BufferTooShort, SourceLength}
use Rattle.encoder.specs.Code.{Coded, TooShort, frame_of, worst_case}
use Rattle.encoder.specs.declared.session.Encoder.{Encoder}
use Rattle.encoder.specs.declared.session.Pushed.{Pushed}

abbrev pub encoder_format : Encoder → Format
encoder_format e = format_of e.format

-- the first of its pixels are the reference picture
abbrev pub encoder_pixels : Encoder → List ℕ
encoder_pixels e = take (16 * block_count (encoder_format e)) e.pixels

-- the picture in numbers, row by row, of the encoder's width
abbrev pub encoder_picture : Encoder → List ℕ → Picture
encoder_picture e pixels = picture_in (4 * (encoder_format e).across) pixels

-- an encoder has made the first n frames of a video from the first n sources: it goes on from the picture that they show,
-- all of them are valid, the first is a key frame, and every picture is within half a step of its source
pub record Made (e : Encoder) (video : Video) (sources : ℕ → Picture) (n : ℕ) : Type 0 where
  pub next : e.next ≡ n
  pub reference : Holds (encoder_format e) (picture_after (encoder_format e) video n) (encoder_pixels e)
  pub whole : Whole (encoder_format e) video n
  pub follows : Follows (encoder_format e) video sources n

-- a sequence with one member replaced
abbrev pub put_at : {A : Type 0} → ℕ → A → (ℕ → A) → ℕ → A
put_at n a old i = cond (i == n) a (old i)

-- a picture is its source, pixel for pixel
abbrev pub Exact : Format → (a b : Picture) → Type 0
Exact f a b = (x y : ℕ) → x < 4 * f.across → y < 4 * f.down → a x y ≡ b x y

-- whatever it made, pixels show its last source within half a step, and at a step of 1 exactly
abbrev pub ShowsLast : Encoder → (pixels : List ℕ) → Type 0
ShowsLast e pixels =
    (video : Video) (sources : ℕ → Picture) (n : ℕ) → Made e video sources (suc n) →
    Near (encoder_format e) ((encoder_format e).step / 2) (encoder_picture e pixels) (sources n)
    × ((encoder_format e).step ≡ 1 → Exact (encoder_format e) (encoder_picture e pixels) (sources n))

-- one frame more is in the buffer, which is as it was after it: it is the video's next, and the encoder goes on from the picture that it shows
pub record PushedAs (e : Encoder) (source : List ℕ) (asked : Bool) (buffer : List ℕ) (p : Pushed) (e₁ : Encoder) (buffer₁ : List ℕ) : Type 0 where
  pub number : p.number ≡ e.next
  pub key : p.key ≡ (asked || e.next == 0)
  pub fits : p.length ≤ length buffer
  pub long : length buffer₁ ≡ length buffer
  pub after : (i : ℕ) → p.length ≤ i → slice_index buffer₁ i ≡ slice_index buffer i
  pub format : e₁.format ≡ e.format
  pub coded : Coded (encoder_format e) p.key source (encoder_pixels e) (take p.length buffer₁) (encoder_pixels e₁)
  pub made : (video : Video) (sources : ℕ → Picture) (n : ℕ) → Made e video sources n →
      Made e₁ (put_at n (frame_of p.key (take p.length buffer₁)) video) (put_at n (encoder_picture e source) sources) (suc n)
  pub near : Near (encoder_format e) ((encoder_format e).step / 2) (encoder_picture e (encoder_pixels e₁)) (encoder_picture e source)
  pub exact : (encoder_format e).step ≡ 1 → Exact (encoder_format e) (encoder_picture e (encoder_pixels e₁)) (encoder_picture e source)

-- what a source can be rejected for: a sequence number above 2^62, and then its length
unfoldable pub push_rejection : Encoder → (source : List ℕ) → Option Rejection
push_rejection e source =
    or_else (number_rejection e.next)
    (unless (length source == 16 * block_count (encoder_format e)) (SourceLength (length source)))

-- a buffer is called short only where it is shorter than the worst case and than the frame at hand; what is rejected changes nothing
abbrev pub PushSays : Option Rejection → Encoder → (source : List ℕ) → (asked : Bool) → (buffer : List ℕ) → Result Pushed Rejection → (e₁ : Encoder) → (buffer₁ : List ℕ) → Type 0
PushSays (Some x) e source asked buffer r e₁ buffer₁ = (r ≡ Err x) × (e₁ ≡ e) × (buffer₁ ≡ buffer)
PushSays None e source asked buffer (Ok p) e₁ buffer₁ = PushedAs e source asked buffer p e₁ buffer₁
PushSays None e source asked buffer (Err x) e₁ buffer₁ =
    (x ≡ BufferTooShort (length buffer)) × (length buffer < worst_case (encoder_format e)) × (e₁ ≡ e) × (buffer₁ ≡ buffer)
    × TooShort (encoder_format e) (asked || e.next == 0) source (encoder_pixels e) (length buffer)

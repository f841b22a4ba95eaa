-- A video for any sequence of pictures: every block is predicted as a flat 0, and its levels do the rest.
use Rattle.std.proofs.Common.{◌≡◌, ℕ, ◌+◌, ◌*◌, ◌/◌, ◌%◌, ◌<◌, ◌≤◌, min, Bool, true, ◌||◌, eqb, List, [], map, length, get_or, ℤ, refl, ap, ◌∙◌, inl, inr, arith}
use Rattle.std.proofs.lemmas.List.FromFn.{length-map-range_with_len, get_or-map-range_with_len}
use Rattle.std.proofs.lemmas.List.{get_or_past}
use Rattle.std.proofs.lemmas.Bool.{cases_lt, ne_eqb}
use Rattle.std.specs.List.{range_with_len}
use Rattle.block.specs.Picture.{Picture}
use Rattle.block.specs.Prediction.{predictable, predicted}
use Rattle.block.specs.Promise.{Close, Within}
use Rattle.block.specs.Transform.{pixel_in}
use Rattle.block.specs.declared.block.Block.{Block}
use Rattle.block.specs.declared.block.Prediction.TheVariants.{Flat}
use Rattle.block.proofs.Suffice.{levels_suffice}
use Rattle.frame.specs.Frame.{Format, Frame, block_count, block_left, block_of_pixel, block_predictable, block_top, frame_block, picture_of, plane_size, shows, valid}
use Rattle.frame.specs.Saying.{SayableBlocks}
use Rattle.frame.specs.Video.{Near, Video, picture_after}
use Rattle.frame.proofs.Blocks.{every_from, picture_of_same, pixel_block_column, pixel_block_row}
use Rattle.frame.proofs.Saying.{said_in_bits}
use Rattle.encoder.specs.Promise.{Faithful}

module _ (f : Format) (least : 1 ≤ f.step) (source : Picture) where
  -- a pixel of block n of the source, or 255 where it is more
  abbrev source_pixel : (n i : ℕ) → ℕ
  source_pixel n i = min (source (block_left f n + i % 4) (block_top f n + i / 4)) 255

  abbrev source_block : ℕ → List ℕ
  source_block n = map (source_pixel n) (range_with_len 0 16)

  source_at : (n x y : ℕ) → x < 4 → y < 4 → pixel_in (source_block n) x y ≡ min (source (block_left f n + x) (block_top f n + y)) 255
  source_at n x y xl yl =
      let across : (4 * y + x) % 4 ≡ x = omega arith in
      let down : (4 * y + x) / 4 ≡ y = omega arith in
      get_or-map-range_with_len (source_pixel n) 0 16 (4 * y + x) (4 * y + x) 0 (omega arith) (omega arith) ∙ rw (across, down)

  source_byte : (n i : ℕ) → get_or (source_block n) i 0 < 256
  source_byte n i = elim (cases_lt i 16) [
    | inl h ↦ omega (arith, get_or-map-range_with_len (source_pixel n) 0 16 i i 0 h (omega arith))
    | inr h ↦ omega (arith, get_or_past (source_block n) i 0 (rw (length-map-range_with_len (source_pixel n) 0 16) h))
  ]

  -- levels for it where it is predicted as 0 everywhere
  levels_for : (n : ℕ) → (levels : List ℤ) × (length levels ≡ 16) × Within 4080 levels × Close f.step levels [] (source_block n)
  levels_for n = levels_suffice f.step [] (source_block n) least (λ i. (omega arith, source_byte n i))

  abbrev blocks : ℕ → Block
  blocks n = record { prediction = Flat 0; levels = (levels_for n).0 }

  module _ (key : Bool) where
    sayable : SayableBlocks key blocks (block_count f)
    sayable n l = record {
      prediction = omega arith;
      sixteen = (levels_for n).1;
      levels = λ i il. omega (arith, (levels_for n).1, (levels_for n).2 i (omega (arith, (levels_for n).1)));
    }

    abbrev said : Frame
    said = record { header = record { key = key }; bits = (said_in_bits key blocks (block_count f) sayable).0 }

    read_back : (i : ℕ) → i < block_count f → frame_block said i ≡ blocks i
    read_back = (said_in_bits key blocks (block_count f) sayable).2

    said_valid : valid f said ≡ true
    unfolding valid predictable
    said_valid = every_from (block_count f) (block_predictable f (frame_block said)) (λ i l.
        ap (λ (b : Block). predictable (plane_size f) (block_left f i) (block_top f i) b.prediction) (read_back i l))

    -- the block of a pixel is where the pixel is, so the pixel is that of the block's source
    pixel_source : (x y : ℕ) → x < 4 * f.across → source x y < 256
        → pixel_in (source_block (block_of_pixel f x y)) (x % 4) (y % 4) ≡ source x y
    pixel_source x y xl byte =
        let column = pixel_block_column f x y xl in
        let row = pixel_block_row f x y xl in
        let across : 4 * (block_of_pixel f x y % f.across) + x % 4 ≡ x = omega arith in
        let down : 4 * (block_of_pixel f x y / f.across) + y % 4 ≡ y = omega arith in
        source_at (block_of_pixel f x y) (x % 4) (y % 4) (omega arith) (omega arith) ∙ rw (across, down) (omega arith)

    said_near : (reference : Picture) → ((x y : ℕ) → x < 4 * f.across → y < 4 * f.down → source x y < 256)
        → Near f (f.step / 2) (shows f reference said) source
    unfolding shows picture_of predicted
    said_near reference bytes x y xl yl =
        rw (picture_of_same f reference (frame_block said) blocks read_back x y xl yl, ← pixel_source x y xl (bytes x y xl yl))
        ((levels_for (block_of_pixel f x y)).3 (x % 4) (y % 4) (omega arith) (omega arith))

module _ (f : Format) (sources : ℕ → Picture) (keys : ℕ → Bool) (least : 1 ≤ f.step) where
  -- each frame is chosen by its source alone, since no block looks at the reference
  abbrev video : Video
  video i = said f least (sources i) (eqb i 0 || keys i)

  key_there : (i : ℕ) → 1 ≤ i → (video i).header.key ≡ keys i
  key_there i l = rw (ne_eqb i 0 (λ e. let z : ⊥ = omega arith in z))

pub faithful : Faithful
unfolding picture_after
faithful f sources keys least bytes = (
  video f sources keys least,
  (λ n. record { first = λ _. refl; valid = λ i _. said_valid f least (sources i) (eqb i 0 || keys i) }),
  (λ n i _. said_near f least (sources i) (eqb i 0 || keys i) (picture_after f (video f sources keys least) i) (bytes i)),
  key_there f sources keys least,
)

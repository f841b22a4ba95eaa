-- The blocks of a frame: tests of every one of them, and which block a pixel is in.
use Rattle.std.proofs.Common.{◌≡◌, ℕ, zero, suc, ◌*◌, ◌/◌, ◌%◌, ◌<◌, Bool, true, false, refl, ap, inl, inr, arith}
use Rattle.std.proofs.lemmas.Nat.{mul-add-lt, mod-mul-add, div-mul-add}
use Rattle.std.proofs.lemmas.Bool.{and_parts, and_from, and_left, and_right, cases_lt}
use Rattle.block.specs.Picture.{Picture}
use Rattle.block.specs.Prediction.{predicted}
use Rattle.block.specs.Transform.{reconstructed}
use Rattle.block.specs.declared.block.Block.{Block}
use Rattle.frame.specs.Frame.{Format, block_count, block_of_pixel, every, picture_of}
use Rattle.frame.specs.Saying.{frame_decisions}

-- TESTS OF EVERY BLOCK

-- a number below suc n is below n or n itself
pub last_or_before : (P : ℕ → Type 0) (n : ℕ) → ((i : ℕ) → i < n → P i) → P n → (i : ℕ) → i < suc n → P i
last_or_before P n before last i l =
    elim (cases_lt i n) [ inl h ↦ before i h | inr h ↦ (let e : i ≡ n = omega arith in rw e last) ]

pub every_holds : (n : ℕ) (test : ℕ → Bool) → every n test ≡ true → (i : ℕ) → i < n → test i ≡ true
unfolding every
every_holds zero test e i l = absurd (let f : ⊥ = omega arith in f)
every_holds (suc n) test e i l =
    let w = and_parts (every n test) (test n) e in
    last_or_before (λ k. test k ≡ true) n (every_holds n test w.0) w.1 i l

pub every_from : (n : ℕ) (test : ℕ → Bool) → ((i : ℕ) → i < n → test i ≡ true) → every n test ≡ true
unfolding every
every_from zero test h = refl
every_from (suc n) test h =
    and_from (every n test) (test n) (every_from n test (λ i l. h i (omega arith))) (h n (omega arith))

pub every_fails : (n : ℕ) (test : ℕ → Bool) (i : ℕ) → i < n → test i ≡ false → every n test ≡ false
unfolding every
every_fails zero test i l e = absurd (let f : ⊥ = omega arith in f)
every_fails (suc n) test i l e =
    elim (cases_lt i n) [
      | inl h ↦ and_left (every n test) (test n) (every_fails n test i h e)
      | inr h ↦ and_right (every n test) (test n) (let s : n ≡ i = omega arith in rw s e)
    ]

-- THE BLOCK OF A PIXEL

module _ (f : Format) (x y : ℕ) (xl : x < 4 * f.across) where
  column : x / 4 < f.across
  column = omega arith

  pub pixel_block_column : block_of_pixel f x y % f.across ≡ x / 4
  pixel_block_column = mod-mul-add (y / 4) f.across (x / 4) column

  pub pixel_block_row : block_of_pixel f x y / f.across ≡ y / 4
  pixel_block_row = div-mul-add (y / 4) f.across (x / 4) column

  pub pixel_block_below : y < 4 * f.down → block_of_pixel f x y < block_count f
  pixel_block_below yl = mul-add-lt (y / 4) f.across (x / 4) f.down (omega arith) column

-- a pixel is made of its block alone, so a picture is made of the blocks below the count
pub pixel_same : (f : Format) (reference : Picture) (blocks blocks' : ℕ → Block) (x y : ℕ) → blocks (block_of_pixel f x y) ≡ blocks' (block_of_pixel f x y)
    → picture_of f reference blocks x y ≡ picture_of f reference blocks' x y
unfolding picture_of
pixel_same f reference blocks blocks' x y same =
    ap (λ (b : Block). reconstructed f.step b.levels (predicted reference (4 * (x / 4)) (4 * (y / 4)) b.prediction (x % 4) (y % 4)) (x % 4) (y % 4)) same

pub picture_of_same : (f : Format) (reference : Picture) (blocks blocks' : ℕ → Block)
    → ((i : ℕ) → i < block_count f → blocks i ≡ blocks' i)
    → (x y : ℕ) → x < 4 * f.across → y < 4 * f.down → picture_of f reference blocks x y ≡ picture_of f reference blocks' x y
picture_of_same f reference blocks blocks' same x y xl yl =
    pixel_same f reference blocks blocks' x y (same (block_of_pixel f x y) (pixel_block_below f x y xl yl))

-- BLOCKS ONE AFTER THE OTHER

pub frame_decisions_same : (key : Bool) (blocks blocks' : ℕ → Block) (n : ℕ) → ((i : ℕ) → i < n → blocks i ≡ blocks' i)
    → frame_decisions key blocks n ≡ frame_decisions key blocks' n
unfolding frame_decisions
frame_decisions_same key blocks blocks' zero same = refl
frame_decisions_same key blocks blocks' (suc n) same =
    let before = frame_decisions_same key blocks blocks' n (λ i l. same i (omega arith)) in
    let last = same n (omega arith) in
    cc

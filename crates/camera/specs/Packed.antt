-- An answer in one number of 64 bits, and how it is taken out again. Assumes nothing: these are definitions.
use Rattle.std.specs.Prelude.{◌≡◌, ℕ, ◌+◌, ◌-◌, ◌*◌, ◌/◌, ◌%◌, ◌^◌, ◌<◌, cond, Ok, Err, Result, ◌==◌, nat_le}
use Rattle.frame.specs.Rejection.{code_of, position_of}
use Rattle.frame.specs.declared.rejection.Rejection.{Rejection}
use Rattle.frame.specs.declared.rejection.Rejection.TheVariants.{BlockCount, StepRange, PictureLength, SourceLength, BufferTooShort, PacketCut, BadText}
use Rattle.frame.specs.declared.rejection.Extent.{Extent}
use Rattle.frame.specs.declared.rejection.Extent.TheVariants.{Across, Down, Total}
use Rattle.frame.specs.declared.rejection.Plane.{Plane}
use Rattle.frame.specs.declared.rejection.Plane.TheVariants.{Reference, Output}
use Rattle.camera.specs.declared.answer.Answer.{Answer}
use Rattle.camera.specs.declared.answer.Answer.TheVariants.{Length, Shown, Invalid, Sure, Unsure}

-- what a call answers, or why it is rejected
abbrev pub Answered : Type 0
Answered = Result Answer Rejection

-- THE FIELDS OF AN ANSWER: its kind, its rejection code, and a length or a position

abbrev pub kind_of : Answered → ℕ
kind_of (Ok (Length n)) = 0
kind_of (Ok Shown) = 1
kind_of (Ok Invalid) = 2
kind_of (Ok Sure) = 3
kind_of (Ok Unsure) = 4
kind_of (Err e) = 5

-- 0 where nothing is rejected
abbrev pub rejection_code : Answered → ℕ
rejection_code (Ok a) = 0
rejection_code (Err e) = code_of e

abbrev pub number_of : Answered → ℕ
number_of (Ok (Length n)) = n
number_of (Ok Shown) = 0
number_of (Ok Invalid) = 0
number_of (Ok Sure) = 0
number_of (Ok Unsure) = 0
number_of (Err e) = position_of e

-- PACKED: the kind in the low four bits, the rejection code in the next four, and the number above them. Only the length of a rejected source,
-- code 4, can be as large as any slice's, which is below 2^63: it has the high bit set, and all others for the length.
unfoldable pub packed : Answered → ℕ
packed a = cond (rejection_code a == 4) (2 ^ 63 + number_of a) (kind_of a + 16 * rejection_code a + 256 * number_of a)

-- the numbers that this has room for
abbrev pub Fitting : Answered → Type 0
Fitting a = number_of a < cond (rejection_code a == 4) (2 ^ 63) (2 ^ 55)

-- UNPACKED, field by field

abbrev pub kind_in : ℕ → ℕ
kind_in n = cond (nat_le (2 ^ 63) n) 5 (n % 16)

abbrev pub code_in : ℕ → ℕ
code_in n = cond (nat_le (2 ^ 63) n) 4 (n / 16 % 16)

abbrev pub number_in : ℕ → ℕ
number_in n = cond (nat_le (2 ^ 63) n) (n - 2 ^ 63) (n / 256)

-- the rejection with that code and position
abbrev pub extent_from : (position : ℕ) → Extent
extent_from position = cond (position == 0) Across (cond (position == 1) Down Total)

abbrev pub plane_from : (position : ℕ) → Plane
plane_from position = cond (position == 0) Reference Output

unfoldable pub rejection_from : (code position : ℕ) → Rejection
rejection_from code position =
    cond (code == 1) (BlockCount (extent_from position))
    (cond (code == 2) StepRange
    (cond (code == 3) (PictureLength (plane_from position))
    (cond (code == 4) (SourceLength position)
    (cond (code == 5) (BufferTooShort position)
    (cond (code == 6) (PacketCut position) (BadText position))))))

-- the answer with those fields
unfoldable pub answer_from : (kind code number : ℕ) → Answered
answer_from kind code number =
    cond (kind == 0) (Ok (Length number))
    (cond (kind == 1) (Ok Shown)
    (cond (kind == 2) (Ok Invalid)
    (cond (kind == 3) (Ok Sure)
    (cond (kind == 4) (Ok Unsure) (Err (rejection_from code number))))))

abbrev pub unpacked : ℕ → Answered
unpacked n = answer_from (kind_in n) (code_in n) (number_in n)

-- WHAT IS PACKED IS TAKEN OUT AGAIN, wherever there is room for its number
abbrev pub Unpacks : Type 0
Unpacks = (a : Answered) → Fitting a → unpacked (packed a) ≡ a

-- a number is an answer packed, which can be taken out again
pub record Packs (a : Answered) (n : ℕ) : Type 0 where
  pub is : n ≡ packed a
  pub back : unpacked n ≡ a

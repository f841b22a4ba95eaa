-- Answers packed are taken out again: the fields do not reach into one another, and the high bit tells a rejected source from all else.
use Rattle.std.proofs.Common.{◌≡◌, ℕ, ◌+◌, ◌-◌, ◌*◌, ◌/◌, ◌%◌, ◌^◌, ◌<◌, true, false, Ok, Err, eqb, leb, sym, refl, ap, ◌∙◌, arith}
use Rattle.std.proofs.lemmas.Nat.{div-mul-add, mod-mul-add}
use Rattle.std.proofs.lemmas.Bool.{le-leb, lt-leb}
use Rattle.frame.specs.Rejection.{code_of}
use Rattle.frame.specs.declared.rejection.Rejection.{Rejection}
use Rattle.frame.specs.declared.rejection.Rejection.TheVariants.{BlockCount, StepRange, PictureLength, SourceLength, BufferTooShort, PacketCut, BadText}
use Rattle.frame.specs.declared.rejection.Extent.TheVariants.{Across, Down, Total}
use Rattle.frame.specs.declared.rejection.Plane.TheVariants.{Reference, Output}
use Rattle.camera.specs.Packed.{Answered, Fitting, Packs, Unpacks, answer_from, packed, rejection_from, unpacked}
use Rattle.camera.specs.declared.answer.Answer.TheVariants.{Length, Shown, Invalid, Sure, Unsure}

-- three fields side by side are below the high bit, so that each is read as it was put
fields : (kind code number : ℕ) → kind < 16 → code < 16 → number < 2 ^ 55 →
    unpacked (kind + 16 * code + 256 * number) ≡ answer_from kind code number
fields kind code number k c n =
    let small : leb (2 ^ 63) (kind + 16 * code + 256 * number) ≡ false = lt-leb _ _ (omega arith) in
    let low : kind + 16 * code + 256 * number ≡ (number * 16 + code) * 16 + kind = omega arith in
    let high : kind + 16 * code + 256 * number ≡ number * 256 + (16 * code + kind) = omega arith in
    let first : (kind + 16 * code + 256 * number) % 16 ≡ kind = rw low (mod-mul-add _ 16 kind k) in
    let second : (kind + 16 * code + 256 * number) / 16 % 16 ≡ code = rw (low, div-mul-add (number * 16 + code) 16 kind k) (mod-mul-add number 16 code c) in
    let third : (kind + 16 * code + 256 * number) / 256 ≡ number = rw high (div-mul-add number 256 _ (omega arith)) in
    rw (small, first, second, third)

-- a length beside the high bit is read as it was put
source : (number : ℕ) → unpacked (2 ^ 63 + number) ≡ answer_from 5 4 number
source number =
    let large : leb (2 ^ 63) (2 ^ 63 + number) ≡ true = le-leb _ _ (omega arith) in
    let rest : 2 ^ 63 + number - 2 ^ 63 ≡ number = omega arith in
    rw (large, rest)

-- all other rejections have another code than 4
pub other_code : (e : Rejection) → ((n : ℕ) → e ≡ SourceLength n → ⊥) → eqb (code_of e) 4 ≡ false
other_code (BlockCount x) h = refl
other_code StepRange h = refl
other_code (PictureLength p) h = refl
other_code (SourceLength n) h = absurd (h n refl)
other_code (BufferTooShort n) h = refl
other_code (PacketCut n) h = refl
other_code (BadText n) h = refl

-- by the fields of each answer
pub unpacks : Unpacks
unfolding packed answer_from rejection_from
unpacks (Ok (Length n)) h = fields 0 0 n (omega arith) (omega arith) h
unpacks (Ok Shown) h = refl
unpacks (Ok Invalid) h = refl
unpacks (Ok Sure) h = refl
unpacks (Ok Unsure) h = refl
unpacks (Err (BlockCount Across)) h = refl
unpacks (Err (BlockCount Down)) h = refl
unpacks (Err (BlockCount Total)) h = refl
unpacks (Err StepRange) h = refl
unpacks (Err (PictureLength Reference)) h = refl
unpacks (Err (PictureLength Output)) h = refl
unpacks (Err (SourceLength n)) h = source n
unpacks (Err (BufferTooShort n)) h = fields 5 5 n (omega arith) (omega arith) h
unpacks (Err (PacketCut n)) h = fields 5 6 n (omega arith) (omega arith) h
unpacks (Err (BadText n)) h = fields 5 7 n (omega arith) (omega arith) h

-- so whatever number is an answer packed is one that it can be taken out of
pub packs : (a b : Answered) → a ≡ b → Fitting a → (n : ℕ) → n ≡ packed b → Packs a n
packs a b e h n is = let whole : n ≡ packed a = is ∙ ap packed (sym e) in record { is = whole; back = rw whole (unpacks a h) }

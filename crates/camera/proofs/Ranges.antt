-- Every rejection has a position that can be packed, since only those of a source and of a buffer are lengths.
use Rattle.std.proofs.Common.{◌≡◌, ℕ, ◌*◌, ◌^◌, ◌<◌, ◌≤◌, Bool, true, false, cond, ◌&&◌, eqb, leb, List, length, Some, None, Ok, Err, Option, Result, sym, refl, subst, inl, inr, arith}
use Rattle.std.proofs.lemmas.List.{length-take-le}
use Rattle.std.proofs.lemmas.Bool.{leb-true}
use Rattle.frame.specs.Frame.{Format, Frame, Packet, block_count}
use Rattle.frame.specs.Rejection.{few, format_rejection, number_rejection, or_else, planes_rejection, show_rejection, unless}
use Rattle.frame.specs.Show.{ShowSays}
use Rattle.frame.specs.declared.rejection.Rejection.{Rejection}
use Rattle.frame.specs.declared.rejection.Rejection.TheVariants.{BlockCount, StepRange, PictureLength, SourceLength, BadText}
use Rattle.frame.specs.declared.rejection.Extent.TheVariants.{Across, Down, Total}
use Rattle.frame.specs.declared.rejection.Plane.TheVariants.{Reference, Output}
use Rattle.frame.specs.declared.show_error.ShowError.{ShowError}
use Rattle.encoder.specs.Code.{CodeSays, code_rejection, pictures_rejection}
use Rattle.stream.specs.Receiver.{ReceiveSays, receive_rejection}
use Rattle.stream.specs.declared.receiver.Receiver.{Receiver}
use Rattle.camera.specs.Camera.{code_answer, format_in, packet_rejection, receive_answer, show_answer}
use Rattle.camera.specs.Packed.{Fitting}
use Rattle.camera.specs.declared.answer.Answer.TheVariants.{Sure, Unsure}

-- a rejection, if there is one, can be packed
abbrev pub Packable : Option Rejection → Type 0
Packable None = Unit {0}
Packable (Some e) = Fitting (Err e)

-- the first of two rejections that can be packed can
first : (a b : Option Rejection) → Packable a → Packable b → Packable (or_else a b)
first None b h k = k
first (Some e) b h k = h

-- one test
tested : (test : Bool) (e : Rejection) → Fitting (Err e) → Packable (unless test e)
tested true e h = tt
tested false e h = h

-- a test before others
after : (test : Bool) (e : Rejection) (rest : Option Rejection) → Fitting (Err e) → Packable rest → Packable (or_else (unless test e) rest)
after true e rest h k = k
after false e rest h k = h

-- the positions of a format and of pictures are 0, 1 or 2
format_packable : (f : Format) → Packable (format_rejection f)
format_packable f =
    let total = unless (leb (block_count f) 224) (BlockCount Total) in
    let steps = unless (leb 1 f.step && leb f.step 64) StepRange in
    after (few f.across) (BlockCount Across) _ (omega arith)
    (after (few f.down) (BlockCount Down) (or_else total steps) (omega arith)
    (after (leb (block_count f) 224) (BlockCount Total) steps (omega arith) (tested (leb 1 f.step && leb f.step 64) StepRange (omega arith))))

planes_packable : (pixels : ℕ) (reference output : List ℕ) → Packable (planes_rejection pixels reference output)
planes_packable pixels reference output =
    after (eqb (length reference) pixels) (PictureLength Reference) (unless (eqb (length output) pixels) (PictureLength Output)) (omega arith)
    (tested (eqb (length output) pixels) (PictureLength Output) (omega arith))

-- so what a format was rejected for can be packed, and what a frame was
pub format_rejected : (f : Format) (e : Rejection) → Some e ≡ format_rejection f → Fitting (Err e)
format_rejected f e h = subst Packable (sym h) (format_packable f)

pub show_fits : (f : Format) (frame : Frame) (reference output : List ℕ) (r : Result (Unit {0}) ShowError) (output₁ : List ℕ) →
    ShowSays (show_rejection f reference output) f frame reference output r output₁ → Fitting (show_answer r)
show_fits f frame reference output r output₁ =
    go (show_rejection f reference output)
    (first (format_rejection f) (planes_rejection (16 * block_count f) reference output) (format_packable f) (planes_packable _ reference output))
  where
    go : (o : Option Rejection) → Packable o → ShowSays o f frame reference output r output₁ → Fitting (show_answer r)
    go (Some e) p says = rw says.0 p
    go None p (inl says) = rw says.0 (omega arith)
    go None p (inr says) = rw says.0 (omega arith)

-- the position of a source is its length, which is no more than a slice can have
pictures_packable : (pixels : ℕ) (source reference output : List ℕ) → length source < 2 ^ 63 → Packable (pictures_rejection pixels source reference output)
pictures_packable pixels source reference output h =
    first (planes_rejection pixels reference output) (unless (eqb (length source) pixels) (SourceLength (length source)))
    (planes_packable pixels reference output) (tested (eqb (length source) pixels) (SourceLength (length source)) h)

-- a format that is not rejected has few blocks, so that the worst case is small
few_blocks : (f : Format) (rest : Option Rejection) → or_else (format_rejection f) rest ≡ None → block_count f ≤ 224
few_blocks f rest = go (few f.across) (few f.down) (leb (block_count f) 224) refl
  where
    go : (a b c : Bool) → leb (block_count f) 224 ≡ c →
        or_else (or_else (unless a (BlockCount Across)) (or_else (unless b (BlockCount Down)) (or_else (unless c (BlockCount Total)) (unless (leb 1 f.step && leb f.step 64) StepRange)))) rest ≡ None →
        block_count f ≤ 224
    go true true true e h = leb-true _ _ e
    go true true false e h = absurd (let z : ◌≡◌ {A = ℕ} 0 1 = cc in let y : ⊥ = omega arith in y)
    go true false c e h = absurd (let z : ◌≡◌ {A = ℕ} 0 1 = cc in let y : ⊥ = omega arith in y)
    go false b c e h = absurd (let z : ◌≡◌ {A = ℕ} 0 1 = cc in let y : ⊥ = omega arith in y)

code_packable : (f : Format) (source reference output : List ℕ) → length source < 2 ^ 63 → Packable (code_rejection f source reference output)
code_packable f source reference output h =
    first (format_rejection f) (pictures_rejection (16 * block_count f) source reference output) (format_packable f)
    (pictures_packable (16 * block_count f) source reference output h)

-- a frame's length is at most the worst case, and a buffer is called short only below it
pub code_fits : (f : Format) (key : Bool) (source reference buffer output : List ℕ) (r : Result ℕ Rejection) (buffer₁ output₁ : List ℕ) → length source < 2 ^ 63 →
    CodeSays (code_rejection f source reference output) f key source reference buffer output r buffer₁ output₁ → Fitting (code_answer r)
code_fits f key source reference buffer output r buffer₁ output₁ h =
    go (code_rejection f source reference output) r (code_packable f source reference output h)
    (few_blocks f (pictures_rejection (16 * block_count f) source reference output))
  where
    go : (o : Option Rejection) (r : Result ℕ Rejection) → Packable o → (o ≡ None → block_count f ≤ 224) →
        CodeSays o f key source reference buffer output r buffer₁ output₁ → Fitting (code_answer r)
    go (Some e) r p small says = rw says.0 p
    go None (Ok n) p small says = omega (arith, small refl, says.3.short, length-take-le n buffer₁ (omega (arith, says.0, says.1)))
    go None (Err e) p small says = rw says.0 (omega (arith, small refl, says.1))

-- the positions of a picture and of a sequence number are 0
packet_packable : (f : Format) (picture : List ℕ) (number : ℕ) → Packable (packet_rejection f picture number)
packet_packable f picture number =
    let pixels = 16 * block_count f in
    first (format_rejection f) (receive_rejection pixels picture number) (format_packable f)
    (after (eqb (length picture) pixels) (PictureLength Reference) (number_rejection number) (omega arith) (tested (leb number (2 ^ 62)) (BadText 0) (omega arith)))

-- sure and unsure have no number
marked_fits : (sure : Bool) → Fitting (Ok (cond sure Sure Unsure))
marked_fits true = omega arith
marked_fits false = omega arith

pub receive_fits : (f : Format) (receiver : Receiver) (packet : Packet) (picture : List ℕ) (r : Result Receiver Rejection) (picture₁ : List ℕ) →
    ReceiveSays (packet_rejection f picture packet.number) f receiver packet picture r picture₁ → Fitting (receive_answer r)
receive_fits f receiver packet picture r picture₁ = go (packet_rejection f picture packet.number) r (packet_packable f picture packet.number)
  where
    go : (o : Option Rejection) (r : Result Receiver Rejection) → Packable o → ReceiveSays o f receiver packet picture r picture₁ → Fitting (receive_answer r)
    go (Some e) r p says = rw says.0 p
    go None (Ok r) p says = marked_fits r.sure
    go None (Err e) p says = absurd says

-- Any blocks can be said: the bottom of the range that their decisions narrow to, written in binary, lies within that range.
use Rattle.std.proofs.Common.{◌≡◌, ℕ, zero, suc, ◌+◌, ◌-◌, ◌*◌, ◌/◌, ◌%◌, ◌^◌, ◌<◌, ◌≤◌, Bool, false, cond, eqb, ltb, List, sym, refl, ap, ◌∙◌, div-one, arith}
use native.Mathlib.Nat.{div-eq_of_lt, sub-zero}
use Rattle.std.proofs.lemmas.Nat.{shr-shr}
use Rattle.std.proofs.lemmas.Bool.{lt-ltb, le-ltb}
use Rattle.bits.specs.Bits.{Bits, bit, prefix_value}
use Rattle.range_coder.specs.Coding.{EncoderState, start_encoder}
use Rattle.range_coder.specs.Decisions.{Decision, Gives, WriterState, start_reader, start_writer, written}
use Rattle.range_coder.proofs.Decisions.{written_append}
use Rattle.block.specs.Syntax.{block_decisions}
use Rattle.block.specs.declared.block.Block.{Block}
use Rattle.frame.specs.Promise.{SaidInBits}
use Rattle.frame.specs.Saying.{SayableBlocks, frame_decisions}
use Rattle.frame.proofs.ReadBack.{frame_read_back}
use Rattle.range_coder.proofs.Promises.{read_back, written_sound}
use Rattle.frame.proofs.Spending.{written_length}

-- A NUMBER IN BINARY

-- v in n binary digits, the high one first, and zeros after them
unfoldable binary : (n v : ℕ) → Bits
binary n v k = cond (ltb k n) (eqb (v / 2 ^ (n - 1 - k) % 2) 1) false

binary_past : (n v k : ℕ) → n ≤ k → binary n v k ≡ false
unfolding binary
binary_past n v k l = rw (le-ltb k n l)

bit_of_digit : (d : ℕ) → d < 2 → bit (eqb d 1) ≡ d
unfolding bit
bit_of_digit zero l = refl
bit_of_digit (suc zero) l = refl
bit_of_digit (suc (suc d)) l = absurd (let f : ⊥ = omega arith in f)

binary_digit : (n v k : ℕ) → k < n → bit (binary n v k) ≡ v / 2 ^ (n - 1 - k) % 2
unfolding binary
binary_digit n v k l = rw (lt-ltb k n l) (bit_of_digit (v / 2 ^ (n - 1 - k) % 2) (omega arith))

-- each digit doubles the digits before it and adds itself
binary_prefix : (n v : ℕ) → v < 2 ^ n → (k : ℕ) → k ≤ n → prefix_value k (binary n v) ≡ v / 2 ^ (n - k)
unfolding prefix_value
binary_prefix n v small zero l = rw sub-zero (sym (div-eq_of_lt small))
binary_prefix n v small (suc k) l =
    let before = binary_prefix n v small k (omega arith) in
    let digit = binary_digit n v k (omega arith) in
    let one_more : n - k ≡ n - 1 - k + 1 = omega arith in
    let the_same : n - suc k ≡ n - 1 - k = omega arith in
    let halved : v / 2 ^ (n - k) ≡ v / 2 ^ (n - 1 - k) / 2 = ap (λ j. v / 2 ^ j) one_more ∙ sym (shr-shr v (n - 1 - k) 1) in
    rw the_same (omega arith)

binary_value : (n v : ℕ) → v < 2 ^ n → prefix_value n (binary n v) ≡ v
binary_value n v small =
    let none : n - n ≡ 0 = omega arith in
    binary_prefix n v small n (omega arith) ∙ ap (λ j. v / 2 ^ j) none ∙ div-one v

-- THE BOTTOM OF THE RANGE

abbrev encoder_after : List Decision → EncoderState
encoder_after ds = (written ds start_writer).encoder

abbrev bottom_bits : List Decision → Bits
bottom_bits ds = binary (encoder_after ds).length (encoder_after ds).low

bottom_gives : (ds : List Decision) → Gives (start_reader (bottom_bits ds)) ds
bottom_gives ds =
    let sound = written_sound ds in
    let same = binary_value (encoder_after ds).length (encoder_after ds).low (omega arith) in
    read_back ds (bottom_bits ds) (record { bottom = omega arith; top = omega arith })

frame_length : (key : Bool) (blocks : ℕ → Block) (n : ℕ) → SayableBlocks key blocks n
    → (encoder_after (frame_decisions key blocks n)).length ≤ 2192 * n + 8
unfolding frame_decisions written start_writer start_encoder
frame_length key blocks zero say = omega arith
frame_length key blocks (suc n) say =
    let front : List Decision = frame_decisions key blocks n in
    let before = frame_length key blocks n (λ i l. say i (omega arith)) in
    let last = written_length key (blocks n) front (say n (omega arith)) in
    let joined = ap (λ (w : WriterState). w.encoder.length) (written_append front (block_decisions key (blocks n)) start_writer) in
    omega arith

pub said_in_bits : SaidInBits
said_in_bits key blocks n say =
    let ds : List Decision = frame_decisions key blocks n in (
      bottom_bits ds,
      λ k l. binary_past (encoder_after ds).length (encoder_after ds).low k (omega (arith, frame_length key blocks n say)),
      (frame_read_back key blocks n (start_reader (bottom_bits ds)) say (bottom_gives ds)).1,
    )

-- The parts of a block one after the other: what has been read or written after each.
use Rattle.std.proofs.Common.{◌≡◌, ℕ, zero, suc, Bool, true, false, List, [], ◌∷◌, length, replicate, ℤ, pos, negsuc, int_eq, refl, ap, ◌∙◌, arith}
use Rattle.std.specs.Bool.{Decides}
use Rattle.std.specs.Cmp.Lexicographic.{pointwise}
use Rattle.std.proofs.lemmas.Bool.Decides.{Decides-int_eq, same_from_decides}
use Rattle.range_coder.proofs.Decisions.{has_written_then, has_written_within}
use Rattle.range_coder.specs.Code.{HasRead, HasWritten}
use Rattle.range_coder.specs.Decisions.{adaptive, read_adaptive}
use Rattle.range_coder.specs.declared.reader.Reader.{Reader}
use Rattle.range_coder.specs.declared.writer.Writer.{Writer}
use Rattle.symbols.specs.Class.{first_context}
use Rattle.symbols.specs.declared.class.NumberClass.TheVariants.{MotionX, MotionY}
use Rattle.symbols.specs.Reading.{read_bits, read_signed, read_levels}
use Rattle.symbols.specs.Saying.{bits_decisions, signed_decisions, levels_decisions}
use Rattle.block.specs.Syntax.{all_zero, block_decisions, is_zero, no_levels, prediction_decisions, read_block, read_flat, read_motion, read_prediction, read_residual, residual_decisions}
use Rattle.block.specs.declared.block.Block.{Block}
use Rattle.block.specs.declared.block.MotionVector.{MotionVector}
use Rattle.block.specs.declared.block.Prediction.{Prediction}
use Rattle.block.specs.declared.block.Prediction.TheVariants.{Flat, Motion}

-- READING

pub flat_read_in_key : (v : ℕ) (a b : Reader) → HasRead (read_bits 8 0) a b v → HasRead (read_prediction true) a b (Flat v)
unfolding read_prediction read_flat
flat_read_in_key v a b f = record { bytes = f.bytes; is = ap Flat f.is; next = f.next }

pub flat_read :
    (v : ℕ) (a b c : Reader) → HasRead (read_adaptive 0) a b false → HasRead (read_bits 8 0) b c v → HasRead (read_prediction false) a c (Flat v)
unfolding read_prediction read_flat
flat_read v a b c f g = record { bytes = g.bytes ∙ f.bytes; is = rw (f.is, f.next, g.is); next = rw (f.is, f.next, g.next) }

pub motion_read :
    (x y : ℤ) (a b c d : Reader) → HasRead (read_adaptive 0) a b true →
    HasRead (read_signed (first_context MotionX)) b c x → HasRead (read_signed (first_context MotionY)) c d y →
    HasRead (read_prediction false) a d (Motion (record { dx = x; dy = y }))
unfolding read_prediction read_motion
motion_read x y a b c d f g h = record {
  bytes = h.bytes ∙ (g.bytes ∙ f.bytes);
  is = rw (f.is, f.next, g.is, g.next, h.is);
  next = rw (f.is, f.next, g.next, h.next);
}

pub no_levels_read : (a b : Reader) → HasRead (read_adaptive 1) a b false → HasRead read_residual a b no_levels
unfolding read_residual
no_levels_read a b f = record { bytes = f.bytes; is = rw f.is; next = rw f.is f.next }

pub levels_read :
    (zs : List ℤ) (a b c : Reader) → HasRead (read_adaptive 1) a b true → HasRead (read_levels 16 0) b c zs → HasRead read_residual a c zs
unfolding read_residual
levels_read zs a b c f g = record { bytes = g.bytes ∙ f.bytes; is = rw (f.is, f.next, g.is); next = rw (f.is, f.next, g.next) }

pub block_read :
    (key : Bool) (p : Prediction) (zs : List ℤ) (a b c : Reader) → HasRead (read_prediction key) a b p → HasRead read_residual b c zs →
    HasRead (read_block key) a c (record { prediction = p; levels = zs })
unfolding read_block
block_read key p zs a b c f g = record { bytes = g.bytes ∙ f.bytes; is = rw (f.is, f.next, g.is); next = rw (f.next, g.next) }

-- WRITING

pub flat_written_in_key :
    (v : ℕ) (a b : Writer) → HasWritten 8 (bits_decisions 8 v) a b → HasWritten 249 (prediction_decisions true (Flat v)) a b
unfolding prediction_decisions
flat_written_in_key v a b f = has_written_within 8 249 (bits_decisions 8 v) a b (omega arith) f

pub flat_written :
    (v : ℕ) (a b c : Writer) → HasWritten 7 (adaptive 0 false ∷ []) a b → HasWritten 8 (bits_decisions 8 v) b c →
    HasWritten 249 (prediction_decisions false (Flat v)) a c
unfolding prediction_decisions
flat_written v a b c f g =
    has_written_within 15 249 (adaptive 0 false ∷ bits_decisions 8 v) a c (omega arith)
    (has_written_then 7 8 (adaptive 0 false ∷ []) (bits_decisions 8 v) a b c f g)

pub motion_written :
    (key : Bool) (m : MotionVector) (a b c d : Writer) → HasWritten 7 (adaptive 0 true ∷ []) a b →
    HasWritten 121 (signed_decisions (first_context MotionX) m.dx) b c → HasWritten 121 (signed_decisions (first_context MotionY) m.dy) c d →
    HasWritten 249 (prediction_decisions key (Motion m)) a d
unfolding prediction_decisions
motion_written true m a b c d f g h = has_written_then 7 242 _ _ a b d f (has_written_then 121 121 _ _ b c d g h)
motion_written false m a b c d f g h = has_written_then 7 242 _ _ a b d f (has_written_then 121 121 _ _ b c d g h)

pub no_levels_written :
    (zs : List ℤ) (a b : Writer) → all_zero zs ≡ true → HasWritten 7 (adaptive 1 false ∷ []) a b → HasWritten 1943 (residual_decisions zs) a b
unfolding residual_decisions
no_levels_written zs a b none f = rw none (has_written_within 7 1943 (adaptive 1 false ∷ []) a b (omega arith) f)

pub levels_written :
    (zs : List ℤ) (a b c : Writer) → all_zero zs ≡ false → HasWritten 7 (adaptive 1 true ∷ []) a b → HasWritten 1936 (levels_decisions 0 zs) b c →
    HasWritten 1943 (residual_decisions zs) a c
unfolding residual_decisions
levels_written zs a b c some f g = rw some (has_written_then 7 1936 (adaptive 1 true ∷ []) (levels_decisions 0 zs) a b c f g)

pub block_written :
    (key : Bool) (block : Block) (a b c : Writer) → HasWritten 249 (prediction_decisions key block.prediction) a b →
    HasWritten 1943 (residual_decisions block.levels) b c → HasWritten 2192 (block_decisions key block) a c
unfolding block_decisions
block_written key block a b c f g =
    has_written_then 249 1943 (prediction_decisions key block.prediction) (residual_decisions block.levels) a b c f g

-- NO LEVELS

zero_decides : (z : ℤ) → Decides (is_zero z) (z ≡ pos 0)
unfolding is_zero
zero_decides (pos zero) = (λ _. refl, λ _. refl)
zero_decides (pos (suc n)) = (λ h. cc h, λ h. cc h)
zero_decides (negsuc n) = (λ h. cc h, λ h. cc h)

zero_is : (z : ℤ) → int_eq z (pos 0) ≡ is_zero z
zero_is z = same_from_decides _ _ (Decides-int_eq z (pos 0)) (zero_decides z)

pub equal_to_zeros : (zs : List ℤ) (n : ℕ) → length zs ≡ n → pointwise int_eq zs (replicate n (pos 0)) ≡ all_zero zs
unfolding all_zero
equal_to_zeros [] zero long = refl
equal_to_zeros [] (suc n) long = cc
equal_to_zeros (z ∷ zs) zero long = cc
equal_to_zeros (z ∷ zs) (suc n) long = rw (zero_is z, equal_to_zeros zs n (omega arith))

-- How many bits decisions take at most: an adaptive one seven, an equiprobable one one. A block's take at most 2192.
use Rattle.std.proofs.Common.{◌≡◌, ℕ, zero, suc, ◌+◌, ◌-◌, ◌*◌, ◌^◌, ◌≤◌, Bool, true, false, leb, List, [], ◌∷◌, ◌++◌, length, ℤ, pos, negsuc, nat_abs, refl, subst, arith}
use Rattle.std.proofs.lemmas.Bool.{cond_both}
use Rattle.range_coder.specs.Decisions.{Decision, WriterState, adaptive, bypass, start_writer, written}
use Rattle.range_coder.proofs.Decisions.{written_append}
use Rattle.symbols.specs.Class.{first_context}
use Rattle.symbols.specs.Reading.{level_context}
use Rattle.symbols.specs.Saying.{bits_decisions, exponent, levels_decisions, number_decisions, prefix_decisions, sign_decisions, signed_decisions}
use Rattle.symbols.specs.declared.class.NumberClass.TheVariants.{MotionX, MotionY}
use Rattle.block.specs.Syntax.{SayableBlock, all_zero, block_decisions, prediction_decisions, residual_decisions}
use Rattle.block.specs.declared.block.Block.{Block}
use Rattle.block.specs.declared.block.Prediction.{Prediction}
use Rattle.block.specs.declared.block.Prediction.TheVariants.{Flat, Motion}
use Rattle.range_coder.proofs.Coding.{bypass_spends, encoded_spends}
use Rattle.range_coder.proofs.Promises.{written_sound}

abbrev pub most : List Decision → ℕ
most [] = 0
most (adaptive c b ∷ ds) = 7 + most ds
most (bypass b ∷ ds) = 1 + most ds

most_append : (xs ys : List Decision) → most (xs ++ ys) ≡ most xs + most ys
most_append [] ys = omega arith
most_append (adaptive c b ∷ xs) ys = omega (arith, most_append xs ys)
most_append (bypass b ∷ xs) ys = omega (arith, most_append xs ys)

-- whatever was written before: a decision leaves a range of at least 128 to the next one
pub written_spends : (before ds : List Decision)
    → (written ds (written before start_writer)).encoder.length ≤ (written before start_writer).encoder.length + most ds
unfolding written
written_spends before [] = omega arith
written_spends before (adaptive c b ∷ ds) =
    let w : WriterState = written before start_writer in
    let rest = subst (λ (v : WriterState). (written ds v).encoder.length ≤ v.encoder.length + most ds)
    (written_append before (adaptive c b ∷ []) start_writer) (written_spends (before ++ adaptive c b ∷ []) ds) in
    omega (arith, rest, encoded_spends (w.contexts c) b w.encoder)
written_spends before (bypass b ∷ ds) =
    let w : WriterState = written before start_writer in
    let rest = subst (λ (v : WriterState). (written ds v).encoder.length ≤ v.encoder.length + most ds)
    (written_append before (bypass b ∷ []) start_writer) (written_spends (before ++ bypass b ∷ []) ds) in
    omega (arith, rest, bypass_spends b w.encoder (written_sound before).low)

-- NUMBERS

prefix_most : (n k c : ℕ) → most (prefix_decisions n k c) ≤ 7 * n
unfolding prefix_decisions
prefix_most zero k c = omega arith
prefix_most (suc n) zero c = omega arith
prefix_most (suc n) (suc k) c = omega (arith, prefix_most n k (suc c))

bits_most : (k v : ℕ) → most (bits_decisions k v) ≡ k
unfolding bits_decisions
bits_most zero v = refl
bits_most (suc k) v = omega (arith, bits_most k v)

exponent_most : (n v : ℕ) → exponent n v ≤ n
unfolding exponent
exponent_most zero v = omega arith
exponent_most (suc n) v =
    cond_both (leb (2 ^ suc n) (suc v)) (suc n) (exponent n v) (λ k. k ≤ suc n) (λ _. omega arith) (λ _. omega (arith, exponent_most n v))

number_most : (c v : ℕ) → most (number_decisions c v) ≤ 120
unfolding number_decisions
number_most c v =
    let k : ℕ = exponent 15 v in
    let front : List Decision = prefix_decisions 15 k c in
    let back : List Decision = bits_decisions k (suc v - 2 ^ k) in
    omega (arith, most_append front back, prefix_most 15 k c, bits_most k (suc v - 2 ^ k), exponent_most 15 v)

sign_most : (z : ℤ) → most (sign_decisions z) ≤ 1
unfolding sign_decisions
sign_most (pos zero) = omega arith
sign_most (pos (suc n)) = omega arith
sign_most (negsuc n) = omega arith

signed_most : (c : ℕ) (z : ℤ) → most (signed_decisions c z) ≤ 121
unfolding signed_decisions
signed_most c z = omega (arith, most_append (number_decisions c (nat_abs z)) (sign_decisions z), number_most c (nat_abs z), sign_most z)

levels_most : (k : ℕ) (zs : List ℤ) → most (levels_decisions k zs) ≤ 121 * length zs
unfolding levels_decisions
levels_most k [] = omega arith
levels_most k (z ∷ zs) =
    let front : List Decision = signed_decisions (level_context k) z in
    omega (arith, most_append front (levels_decisions (suc k) zs), signed_most (level_context k) z, levels_most (suc k) zs)

-- BLOCKS

prediction_most : (key : Bool) (p : Prediction) → most (prediction_decisions key p) ≤ 249
unfolding prediction_decisions
prediction_most true (Flat v) = omega (arith, bits_most 8 v)
prediction_most false (Flat v) = omega (arith, bits_most 8 v)
prediction_most key (Motion m) =
    let x : List Decision = signed_decisions (first_context MotionX) m.dx in
    let y : List Decision = signed_decisions (first_context MotionY) m.dy in
    omega (arith, most_append x y, signed_most (first_context MotionX) m.dx, signed_most (first_context MotionY) m.dy)

residual_most : (zs : List ℤ) → length zs ≡ 16 → most (residual_decisions zs) ≤ 1943
unfolding residual_decisions
residual_most zs sixteen =
    cond_both (all_zero zs) (adaptive 1 false ∷ []) (adaptive 1 true ∷ levels_decisions 0 zs) (λ ds. most ds ≤ 1943)
    (λ _. omega arith) (λ _. omega (arith, levels_most 0 zs))

pub block_most : (key : Bool) (b : Block) → SayableBlock key b → most (block_decisions key b) ≤ 2192
unfolding block_decisions
block_most key b say =
    let front : List Decision = prediction_decisions key b.prediction in
    let back : List Decision = residual_decisions b.levels in
    omega (arith, most_append front back, prediction_most key b.prediction, residual_most b.levels say.sixteen)

pub written_length : (key : Bool) (b : Block) (before : List Decision) → SayableBlock key b
    → (written (block_decisions key b) (written before start_writer)).encoder.length ≤ (written before start_writer).encoder.length + 2192
written_length key b before say = omega (arith, written_spends before (block_decisions key b), block_most key b say)

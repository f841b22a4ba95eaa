use Rattle.std.proofs.Common.{◌≡◌, ℕ, zero, suc, ◌<◌, sym, refl, ap, arith}
use Rattle.symbols.specs.Reading.{level_context}
use Rattle.symbols.proofs.class.NumberClass.of_level.Goals as goal

later : (k : ℕ) → 0 < k → 48 ≡ level_context k
unfolding level_context
later zero h = absurd (let f : ⊥ = omega arith in f)
later (suc k) h = refl

pub returns-then-k-eq0 : goal.returns-then-k-eq0
unfolding level_context
returns-then-k-eq0 c = ap level_context (sym c.if-k-eq0.true)

pub returns-else-k-eq0 : goal.returns-else-k-eq0
returns-else-k-eq0 c = later c.args.k (omega arith)

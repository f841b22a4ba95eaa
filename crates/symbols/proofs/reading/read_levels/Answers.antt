use Rattle.std.proofs.Common.{◌∙◌, arith, length-set, w32, SFits, rules}
use Rattle.std.proofs.lemmas.Int.{to_z-of_z}
use Rattle.symbols.proofs.ReadSteps.{levels_left_more, levels_left_none, levels_small}
use Rattle.symbols.proofs.reading.read_levels.Goals as goal

pub loop-k-preserved : goal.loop-k-preserved
loop-k-preserved c =
    let z = c.read_signed.result in
    let fits : SFits w32 z = search rules in
    let inv = c.loop-k.invariant in
    rw (to_z-of_z w32 z fits) (
      levels_left_more _ c.loop-k.k c.loop-k.level-items z _ _ _ c.loop-k-test.true inv.1 inv.0 c.read_signed.ensures.read c.of_level.ensures,
      length-set _ _ _ ∙ inv.1,
    )

pub returns : goal.returns
returns c =
    let r = levels_left_none c.loop-k.k c.loop-k.level-items _ _ (omega arith) c.loop-k.invariant.1 c.loop-k.invariant.0 in
    record { read = r; small = levels_small _ _ _ r }

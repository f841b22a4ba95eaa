use Rattle.std.proofs.Common.{◌≡◌, length, get_or, pos, arith, w32, SFits, rules}
use Rattle.std.proofs.lemmas.Int.{to_z-of_z}
use Rattle.symbols.proofs.WriteSteps.{levels_left_more, levels_left_none}
use Rattle.symbols.proofs.writing.write_levels.Goals as goal

pub loop-k-preserved : goal.loop-k-preserved
loop-k-preserved c =
    let k = c.loop-k.k in
    let z = get_or c.args.levels k (pos 0) in
    let fits : SFits w32 z = search rules in
    let sixteen : length c.args.levels ≡ 16 = search rules in
    levels_left_more c.args.levels k _ _ _ _ _ c.loop-k-test.true sixteen c.loop-k.invariant c.write_signed.ensures c.of_level.ensures (to_z-of_z w32 z fits)

pub returns : goal.returns
returns c =
    let sixteen : length c.args.levels ≡ 16 = search rules in
    levels_left_none c.args.levels c.loop-k.k _ _ (omega arith) sixteen c.loop-k.invariant

use Rattle.std.proofs.Common.{◌+◌, ◌*◌, arith}
use Rattle.std.proofs.lemmas.Int.{ints}
use Rattle.block.proofs.Passes.{row_is}
use Rattle.block.proofs.transform.transformed_row.Goals as goal

pub butterfly-second-requires : goal.butterfly-second-requires
butterfly-second-requires c =
    let a = c.requires.small (4 * c.args.row) (omega arith) in
    let b = c.requires.small (4 * c.args.row + 1) (omega arith) in
    let d = c.requires.small (4 * c.args.row + 2) (omega arith) in
    let e = c.requires.small (4 * c.args.row + 3) (omega arith) in
    (omega (arith, ints), omega (arith, ints))

pub returns : goal.returns
returns c =
    row_is c.args.rows c.args.row c.requires.row c.requires.small _ _ _ _ _ _ _ _
    c.butterfly-early_sum.ensures.sum c.butterfly-early_sum.ensures.difference c.butterfly-late_sum.ensures.sum c.butterfly-late_sum.ensures.difference
    c.butterfly-first.ensures.sum c.butterfly-first.ensures.difference c.butterfly-second.ensures.sum c.butterfly-second.ensures.difference

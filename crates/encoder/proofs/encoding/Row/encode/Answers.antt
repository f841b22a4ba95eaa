use Rattle.std.proofs.Common.{◌≡◌, subst, arith}
use Rattle.encoder.specs.Progress.{RowEncoded}
use Rattle.encoder.proofs.Rows.{row_none, row_more}
use Rattle.encoder.proofs.encoding.Row.encode.Goals as goal

pub loop-column-init : goal.loop-column-init
loop-column-init c p = row_none c.args.self.now.frame c.args.self.now.row c.args.writer.now p c.args.band.now

pub loop-column-preserved : goal.loop-column-preserved
loop-column-preserved c p =
    row_more c.args.self.now.frame c.args.self.now.row c.loop-column.column
    c.args.writer.now c.loop-column.writer _ p c.loop-column.band _ (c.loop-column.invariant p) (c.encode_block-before.ensures (c.loop-column.invariant p).next)

pub returns : goal.returns
returns c p =
    let e : c.loop-column.column ≡ c.args.self.now.frame.format.across = omega arith in
    subst (λ n. RowEncoded c.args.self.now.frame c.args.self.now.row n c.args.writer.now c.loop-column.writer p c.loop-column.band) e (c.loop-column.invariant p)

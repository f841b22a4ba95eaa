use Rattle.std.proofs.Common.{◌≡◌, ◌+◌, ◌*◌, ◌≤◌, length, ap, arith}
use Rattle.std.proofs.lemmas.Nat.{mul-le}
use Rattle.std.proofs.lemmas.List.Edits.{length-between}
use Rattle.encoder.proofs.Rows.{frame_none, frame_more}
use Rattle.encoder.proofs.input.FrameInput.encode.Goals as goal

pub loop-row-init : goal.loop-row-init
loop-row-init c e s = frame_none c.args.self.now c.args.writer.now c.args.output.now e s

-- the row that was lent on starts within the picture, and is as long as a row of blocks
module _ (c : goal.After-slice_known-in-loop-row-1) where
  row_start : c.loop-row.row * (16 * c.across-band.result) ≡ c.loop-row.row * (16 * c.args.self.now.format.across)
  row_start = ap (λ n. c.loop-row.row * (16 * n)) c.across-band.ensures

  rows_within : (c.loop-row.row + 1) * (16 * c.args.self.now.format.across) ≤ length c.loop-row.output
  rows_within = omega (arith, mul-le (c.loop-row.row + 1) (16 * c.args.self.now.format.across) c.args.self.now.format.down (16 * c.args.self.now.format.across) (omega arith) (omega arith))

  row_length : length c.encode.new.band ≡ 16 * c.args.self.now.format.across
  row_length =
      let h = c.encode.auto.band in
      let e = ap (λ n. (c.loop-row.row + 1) * (16 * n)) c.across-band.ensures in
      let g = length-between c.loop-row.output (c.loop-row.row * (16 * c.across-band.result)) ((c.loop-row.row + 1) * (16 * c.across-band.result)) (omega (arith, rows_within)) in
      omega (arith, row_start)

pub loop-row-preserved : goal.loop-row-preserved
loop-row-preserved c e s =
    let g = c.loop-row.invariant e s in
    frame_more c.args.self.now c.loop-row.row _ _
    c.loop-row.writer c.encode.new.writer c.loop-row.output c.encode.new.band g (c.encode.ensures g.next)
    (row_start c) (row_length c) (omega (arith, row_start c, rows_within c))

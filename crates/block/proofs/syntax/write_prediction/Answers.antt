use Rattle.std.proofs.Common.{w32, SFits, rules}
use Rattle.std.proofs.lemmas.Int.{to_z-of_z}
use Rattle.block.proofs.Parts.{flat_written, flat_written_in_key, motion_written}
use Rattle.block.proofs.syntax.write_prediction.Goals as goal
use Rattle.block.proofs.syntax.write_prediction.Goals.{then-not-key, else-not-key}

pub returns-after-not-key : goal.returns-after-not-key
returns-after-not-key c = elim c.if-not-key.branch [
  | then-not-key w ↦
      simp (c.in-Flat.is, w.if-not-key.true) (flat_written _ _ _ _ w.adaptive.ensures (simp w.writer-is at c.write_byte.ensures))
  | else-not-key w ↦ simp (c.in-Flat.is, w.if-not-key.false) (flat_written_in_key _ _ _ (simp w.writer-is at c.write_byte.ensures))
]

pub returns-in-Motion : goal.returns-in-Motion
returns-in-Motion c =
    let x_fits : SFits w32 c.in-Motion.vector.dx = search rules in
    let y_fits : SFits w32 c.in-Motion.vector.dy = search rules in
    simp c.in-Motion.is
    (motion_written c.args.key c.in-Motion.vector _ _ _ _ c.adaptive-in-Motion.ensures
    (simp to_z-of_z at c.write_signed.ensures) (simp to_z-of_z at c.write_signed-in-Motion.ensures))

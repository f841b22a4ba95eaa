use Rattle.std.proofs.Common.{refl, w32, SFits, rules}
use Rattle.std.proofs.lemmas.Int.{to_z-of_z}
use Rattle.block.proofs.Parts.{flat_read, flat_read_in_key, motion_read}
use Rattle.block.proofs.syntax.read_prediction.Goals as goal
use Rattle.block.proofs.syntax.read_prediction.Goals.{else-not-key-via-then-not-key+else-adaptive, else-not-key-via-else-not-key}

pub returns-then-adaptive : goal.returns-then-adaptive
returns-then-adaptive c =
    let x_fits : SFits w32 c.read_signed-dx.result = search rules in
    let y_fits : SFits w32 c.read_signed-dy.result = search rules in
    simp (to_z-of_z, c.if-not-key.true) (record {
      read = motion_read _ _ _ _ _ _ c.if-adaptive.ensures c.read_signed-dx.ensures.read c.read_signed-dy.ensures.read;
      sayable = (refl, c.read_signed-dx.ensures.small, c.read_signed-dy.ensures.small);
    })

pub returns-else-not-key : goal.returns-else-not-key
returns-else-not-key c = record {
  read = elim c.else-not-key.branch [
    | else-not-key-via-then-not-key+else-adaptive w ↦
        simp w.if-not-key.true (flat_read _ _ _ _ w.if-adaptive.ensures (simp w.reader-is at c.read_byte.ensures))
    | else-not-key-via-else-not-key w ↦ simp w.if-not-key.false (flat_read_in_key _ _ _ (simp w.reader-is at c.read_byte.ensures))
  ];
  sayable = c.read_byte.type_inv;
}

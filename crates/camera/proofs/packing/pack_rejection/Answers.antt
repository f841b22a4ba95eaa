use Rattle.camera.specs.Packed.{packed}
use Rattle.camera.proofs.Fields.{other_code}
use Rattle.camera.proofs.packing.pack_rejection.Goals as goal

pub returns-in-SourceLength : goal.returns-in-SourceLength
unfolding packed
returns-in-SourceLength c = rw c.in-SourceLength.is

pub returns-in_default : goal.returns-in_default
unfolding packed
returns-in_default c = rw (other_code c.args.rejection c.in_default.not-SourceLength, c.code.ensures, c.position.ensures)

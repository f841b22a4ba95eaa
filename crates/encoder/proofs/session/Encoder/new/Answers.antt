use Rattle.std.proofs.Common.{refl, arith}
use Rattle.encoder.proofs.Sessions.{starts}
use Rattle.encoder.proofs.session.Encoder.new.Goals as goal

pub returns-clause-made : goal.returns-clause-made
returns-clause-made c = starts _ 3584 refl refl (omega arith)

use Rattle.std.proofs.Common.{arith}
use Rattle.std.proofs.lemmas.Int.{ints, clamps}
use Rattle.block.proofs.Words.{clipped_is}
use Rattle.block.proofs.transform.clip.Goals as goal

pub returns : goal.returns
returns c = omega (arith, ints, clamps, clipped_is c.args.value)

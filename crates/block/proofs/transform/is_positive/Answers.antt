use Rattle.std.proofs.Common.{◌<◌}
use Rattle.block.specs.Transform.{positive}
use Rattle.block.specs.Stages.{positive_at}
use Rattle.block.proofs.Signs.{sign_tested}
use Rattle.block.proofs.transform.is_positive.Goals as goal

pub returns : goal.returns
unfolding positive_at positive
returns c =
    let function : c.args.function < 16 = c.requires.0 in
    let pixel : c.args.pixel < 16 = c.requires.1 in
    rw sign_tested

use Rattle.range_coder.proofs.Promises.{limits_kept}
use Rattle.range_coder.proofs.limits_kept.Goals as goal

pub returns : goal.returns
returns c = limits_kept

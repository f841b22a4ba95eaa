use Rattle.range_coder.proofs.Promises.{read_back}
use Rattle.range_coder.proofs.read_back.Goals as goal

pub returns : goal.returns
returns c = read_back

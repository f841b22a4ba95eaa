use Rattle.range_coder.proofs.Promises.{finished}
use Rattle.range_coder.proofs.writer.Writer.finish.Goals as goal

pub returns : goal.returns
returns c = finished c.args.self.now c.trimmed.result.now c.trimmed.ensures.within (rw c.as_slice.ensures at c.trimmed.ensures.same) c.trimmed.ensures.last

use Rattle.frame.proofs.Edges.{within_edges}
use Rattle.frame.proofs.promises.within_edges.Goals as goal

pub returns : goal.returns
returns c = within_edges

use Rattle.std.proofs.Common.{append_assoc, rules}
use Rattle.pictures.proofs.y4m.write_y4m_header.Goals as goal

pub returns : goal.returns
returns c = search (rules, append_assoc)

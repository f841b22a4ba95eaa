use Rattle.std.proofs.Common.{vec_items, sym, arith}
use Rattle.container.proofs.Feeding.{ends_clean, ends_cut}
use Rattle.container.proofs.reader.PacketReader.end.Goals as goal

pub returns-then-self-len : goal.returns-then-self-len
returns-then-self-len c = sym (ends_cut (vec_items c.args.self.now.held) c.args.self.now.taken c.args.self.now.position (omega arith))

pub returns : goal.returns
returns c = sym (ends_clean (vec_items c.args.self.now.held) c.args.self.now.taken c.args.self.now.position (omega arith))

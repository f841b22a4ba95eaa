use Rattle.std.proofs.Common.{◌-◌, vec_items, vec_len, refl, arith}
use Rattle.container.proofs.Feeding.{fed_state}
use Rattle.container.proofs.reader.PacketReader.feed.Goals as goal

pub returns : goal.returns
returns c = record {
  state =
      fed_state (vec_items c.args.self.now.held) c.args.self.now.taken (c.len.result - c.args.self.now.taken) (omega arith) (omega arith) c.extend_from_slice.result c.args.piece.now
      (vec_items c.copy_within.new.self) (vec_items c.truncate.new.self) (vec_items c.extend_from_slice.new.self) c.args.self.now.position (vec_len c.args.self.now.held - c.args.self.now.taken)
      (omega arith) c.copy_within.ensures.items c.truncate.ensures.items c.extend_from_slice.ensures.items;
  frame = refl;
}

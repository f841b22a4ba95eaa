use Rattle.std.proofs.Common.{vec_items, ◌∙◌, arith}
use Rattle.container.specs.Container.{Packet, lent_packet}
use Rattle.container.proofs.Placing.{at_file_end, cut_back}
use Rattle.container.proofs.writing.write_packet.Goals as goal

pub returns-then-is_err : goal.returns-then-is_err
returns-then-is_err c =
    c.truncate.ensures.items
    ∙ cut_back (vec_items c.args.out.now) _ c.len-position.result c.in_ok-extend_from_slice.ensures.items
    (rw c.if-is_err.ensures.negation at c.extend_from_slice-2.ensures.items) (omega arith)

pub returns : goal.returns
returns c =
    let p : Packet = lent_packet c.args.packet in
    let two = rw c.if-is_err.ensures.negation at c.extend_from_slice-2.ensures.items in (
      omega arith,
      at_file_end p c.write_head-head.result.now c.write_head-head.ensures
          (vec_items c.args.out.now) {one = vec_items c.extend_from_slice.new.self} c.in_ok-extend_from_slice.ensures.items two,
    )

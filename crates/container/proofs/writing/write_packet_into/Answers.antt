use Rattle.std.proofs.Common.{arith}
use Rattle.container.specs.Container.{Packet, lent_packet}
use Rattle.container.proofs.Placing.{at_buffer_start, fitting, packet_length, too_short}
use Rattle.container.proofs.writing.write_packet_into.Goals as goal
use Rattle.container.proofs.writing.write_packet_into.Goals.{then-out-size-via-then-out-size, then-out-size-via-else-out-size+then-out-size-2}

pub returns-then-out-size : goal.returns-then-out-size
returns-then-out-size c =
    let p : Packet = lent_packet c.args.packet in
    let l = packet_length p c.write_head-head.result.now c.write_head-head.ensures in
    too_short p c.args.out.now (omega arith) (elim c.then-out-size.branch [
      | then-out-size-via-then-out-size w ↦ omega (arith, w.if-out-size.true)
      | then-out-size-via-else-out-size+then-out-size-2 w ↦ omega (arith, w.if-out-size-2.true)
    ])

pub returns : goal.returns
returns c =
    let p : Packet = lent_packet c.args.packet in
    let head = c.write_head-head.result.now in
    let l = packet_length p head c.write_head-head.ensures in
    fitting p c.args.out.now (omega arith) (omega arith) (rw l)
    (at_buffer_start p head c.write_head-head.ensures c.args.out.now _ _ c.copy_from_slice.ensures.after c.copy_from_slice-2.ensures.after (omega arith) (omega arith))

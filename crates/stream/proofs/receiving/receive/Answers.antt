use Rattle.std.proofs.Common.{sym}
use Rattle.frame.specs.Show.{format_of, packet_of}
use Rattle.stream.proofs.Standing.{says_invalid, says_late, says_shown, says_unwanted}
use Rattle.stream.proofs.receiving.receive.Goals as goal
use Rattle.stream.proofs.receiving.receive.Goals.{else-wants-via-then-wants+else-is_ok, else-wants-via-else-wants}

pub returns-then-packet-receiver : goal.returns-then-packet-receiver
returns-then-packet-receiver c =
    says_late (format_of c.args.format) c.args.receiver (packet_of c.args.packet) c.args.picture.now c.in_ok-check_plane.ensures c.in_ok-check_number.ensures
    c.if-packet-receiver.true

pub returns-then-is_ok : goal.returns-then-is_ok
returns-then-is_ok c =
    says_shown (format_of c.args.format) c.args.receiver (packet_of c.args.packet) c.args.picture.now c.in_ok-check_plane.ensures c.in_ok-check_number.ensures
    c.if-packet-receiver.false c.redraw.result c.redraw.new.picture c.if-is_ok.ensures.value (λ picture. sym c.if-wants.ensures) c.redraw.ensures

pub returns : goal.returns
returns c = elim c.else-wants.branch [
  | else-wants-via-then-wants+else-is_ok w ↦ rw w.picture-is
      (says_invalid (format_of c.args.format) c.args.receiver (packet_of c.args.packet) c.args.picture.now c.in_ok-check_plane.ensures c.in_ok-check_number.ensures
      c.if-packet-receiver.false w.redraw.result w.redraw.new.picture w.if-is_ok.ensures.value w.redraw.ensures)
  | else-wants-via-else-wants w ↦ rw w.picture-is
      (says_unwanted (format_of c.args.format) c.args.receiver (packet_of c.args.packet) c.args.picture.now c.in_ok-check_plane.ensures c.in_ok-check_number.ensures
      c.if-packet-receiver.false (λ picture. sym w.if-wants.ensures))
]

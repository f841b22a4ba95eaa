use Rattle.std.proofs.Common.{string_bytes, ap}
use Rattle.text.proofs.Spacing.{packet_key, packet_plain}
use Rattle.text.proofs.writing.write_packet.Goals as goal
use Rattle.text.proofs.writing.write_packet.Goals.{then-frame+in_ok-push_str, else-frame}

pub returns : goal.returns
returns c =
    let packet = c.args.packet in
    let front = string_bytes c.in_ok-line.line in
    let start = string_bytes c.if-frame.line in
    let line = string_bytes c.push_numbers.new.line in
    let number = c.in_ok-line.ensures.ok in
    let numbers = c.in_ok-push_numbers.ensures in
    elim c.if-frame.branch [
      | then-frame+in_ok-push_str w ↦ packet_key packet.number packet.frame.header.key packet.frame.bytes.now front start line number numbers (string_bytes w.push_str.new.self) w.if-frame.true w.in_ok-push_str.ensures.bytes (ap string_bytes w.line-is)
      | else-frame w ↦ packet_plain packet.number packet.frame.header.key packet.frame.bytes.now front start line number numbers w.if-frame.false (ap string_bytes w.line-is)
    ]

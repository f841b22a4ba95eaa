use Rattle.std.proofs.Common.{[]}
use Rattle.frame.specs.Show.{format_of, frame_of}
use Rattle.frame.proofs.Keys.{key_shown}
use Rattle.frame.proofs.showing.show_frame.Goals as goal

pub returns-then-frame : goal.returns-then-frame
returns-then-frame c =
    rw (← c.in_ok-check_planes.ensures)
    (key_shown (format_of c.args.format) (frame_of c.args.frame) [] c.args.reference.now c.args.output.now
    c.decode.new.output c.decode.result c.if-frame.true c.decode.ensures)

use Rattle.std.proofs.Common.{refl, arith}
use Rattle.frame.specs.Show.{format_of}
use Rattle.stream.proofs.Screens.{starts}
use Rattle.stream.proofs.screen.Screen.new.Goals as goal

pub returns : goal.returns
returns c = record { format = refl; received = starts (format_of c.args.format) c.new.result 3584 c.new.ensures.sure c.new.ensures.next (omega arith) }

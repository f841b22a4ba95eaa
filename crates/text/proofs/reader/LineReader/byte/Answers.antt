use Rattle.std.proofs.Common.{arith}
use Rattle.text.specs.Line.{left}
use Rattle.text.proofs.Steps.{number_within}
use Rattle.text.proofs.reader.LineReader.byte.Goals as goal

pub overflow_cast-result : goal.overflow_cast-result
overflow_cast-result c = omega (arith, number_within 255 _ (left c.args.self.now) _ c.in_ok-number.ensures)

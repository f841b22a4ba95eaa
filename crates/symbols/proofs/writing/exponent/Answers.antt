use Rattle.std.proofs.Common.{◌≡◌, ◌∙◌, arith}
use Rattle.symbols.proofs.Exponent.{exponent_is, exponent_low}
use Rattle.symbols.specs.Saying.{exponent}
use Rattle.symbols.proofs.writing.exponent.Goals as goal

pub returns : goal.returns
returns c =
    let v = c.args.value in
    let e : c.min.result ≡ exponent 15 v = c.min.ensures ∙ exponent_is 15 v c.ilog2.result (omega arith) (omega arith) in
    record { is = e; most = omega arith; low = rw e (omega (arith, exponent_low 15 v)) }

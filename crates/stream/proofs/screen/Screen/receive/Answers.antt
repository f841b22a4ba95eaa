use Rattle.std.proofs.Common.{arith}
use Rattle.std.proofs.lemmas.Result.{err_from_is_err_and}
use Rattle.stream.proofs.Screens.{screen_received, screen_rejected}
use Rattle.stream.proofs.screen.Screen.receive.Goals as goal

pub returns-in_err-self : goal.returns-in_err-self
returns-in_err-self c =
    let p = err_from_is_err_and c.from_residual.result c.from_residual.ensures.1 in
    rw (p.1, p.2)
    (screen_rejected c.args.self.now _ c.pixel_count-pixels.result c.receive.new.picture (omega arith) (omega arith)
    c.in_err-self.field-0.0 c.in_err-self.ensures)

pub returns : goal.returns
returns c =
    screen_received c.args.self.now _ c.pixel_count-pixels.result c.receive.new.picture (omega arith) (omega arith)
    c.in_ok-self.field-0 c.in_ok-self.ensures

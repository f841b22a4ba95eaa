use Rattle.std.proofs.Common.{◌≡◌, rules}
use Rattle.stream.specs.Screen.{number_shown}
use Rattle.stream.proofs.Screens.{shows_number}
use Rattle.stream.proofs.screen.Screen.shown.Goals as goal

pub returns : goal.returns
returns c =
    let e : c.checked_sub.result ≡ number_shown c.args.self.now.receiver.next = search rules in
    record { number = e; video = shows_number c.args.self.now c.checked_sub.result e }

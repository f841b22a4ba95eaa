use Rattle.std.proofs.Common.{refl}
use Rattle.stream.proofs.Screens.{follows_source, shows_before, some_shown}
use Rattle.stream.proofs.screen.Screen.sure.Goals as goal

pub returns : goal.returns
returns c = record {
  mark = refl;
  video = λ sure. shows_before c.args.self.now;
  source = λ sure. follows_source c.args.self.now;
  some = some_shown c.args.self.now;
}

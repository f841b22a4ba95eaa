-- What an encoder made and a screen received, put together.
use Rattle.std.proofs.Common.{◌*◌, subst}
use Rattle.block.specs.Picture.{picture_in}
use Rattle.frame.specs.Frame.{Format}
use Rattle.frame.specs.Video.{Follows}
use Rattle.encoder.proofs.Lengthening.{exact_at_one}
use Rattle.stream.specs.Runs.{LensToEyeOverRuns}
use Rattle.stream.specs.Screen.{screen_format, screen_pixels}
use Rattle.stream.proofs.Screens.{follows_source}

pub lens_to_eye_over_runs : LensToEyeOverRuns
lens_to_eye_over_runs e s video sources n ps last same made received sent sure next below =
    let follows = subst (λ (f : Format). Follows f video sources n) same made.follows in
    let near = follows_source s video sources n ps last follows received sent next below in
    (near, λ one. exact_at_one (screen_format s) (picture_in (4 * (screen_format s).across) (screen_pixels s)) (sources last) one near)

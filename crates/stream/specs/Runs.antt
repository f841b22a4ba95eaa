-- From lens to eye, over whole runs of an encoder and a screen. A statement, whose proof a function's contract asks for.
use Rattle.std.specs.Prelude.{◌≡◌, ℕ, suc, ◌*◌, ◌/◌, ◌<◌, true, List}
use Rattle.block.specs.Picture.{Picture, picture_in}
use Rattle.frame.specs.Frame.{Packet}
use Rattle.frame.specs.Video.{Near, Video}
use Rattle.encoder.specs.Session.{Exact, Made, encoder_format}
use Rattle.encoder.specs.declared.session.Encoder.{Encoder}
use Rattle.stream.specs.Promise.{Sent}
use Rattle.stream.specs.Screen.{Received, screen_format, screen_pixels}
use Rattle.stream.specs.declared.screen.Screen.{Screen}

-- FROM LENS TO EYE. An encoder has made the first n frames of a video from as many source pictures, with key frames wherever one liked;
-- a screen of the same format has received packets of that video, lost, doubled, late and in any order. Whatever the screen is sure of
-- is within half a step of the source picture with that number, at every pixel, and equal to it if the step is one: the screen's
-- pixels are the video's picture with that number, and the encoder saw to it that this is close to its source.
abbrev pub LensToEyeOverRuns : Type 0
LensToEyeOverRuns =
    (e : Encoder) (s : Screen) (video : Video) (sources : ℕ → Picture) (n : ℕ) (ps : List Packet) (last : ℕ) →
    encoder_format e ≡ screen_format s → Made e video sources n → Received s ps → Sent video ps →
    s.receiver.sure ≡ true → s.receiver.next ≡ suc last → last < n →
    Near (screen_format s) ((screen_format s).step / 2) (picture_in (4 * (screen_format s).across) (screen_pixels s)) (sources last)
    × ((screen_format s).step ≡ 1 → Exact (screen_format s) (picture_in (4 * (screen_format s).across) (screen_pixels s)) (sources last))

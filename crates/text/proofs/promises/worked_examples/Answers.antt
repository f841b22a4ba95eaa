use Rattle.std.proofs.Common.{refl}
use Rattle.std.specs.Fmt.{digits}
use Rattle.text.specs.Line.{number_of, words_from}
use Rattle.text.specs.Text.{bytes_to_end, pixels_of}
use Rattle.text.proofs.promises.worked_examples.Goals as goal

pub returns : goal.returns
unfolding number_of words_from bytes_to_end pixels_of digits
returns c =
    record {
      header = refl;
      row = refl;
      key_packet = refl;
      packet = refl;
      too_large = refl;
      no_number = refl;
      too_few = refl;
      too_many = refl;
      late_key = refl;
      sequence_number = refl;
      worst = refl;
      sure = refl;
      unsure = refl;
      none_shown = refl;
    }

use Rattle.text.proofs.LaidOut.{line_same, line_separate}
use Rattle.text.proofs.promises.cut_into_words.Goals as goal

pub returns : goal.returns
returns c = record { same = line_same; separate = line_separate }

use Rattle.pictures.proofs.ReadBack.{line_same, line_spaceless}
use Rattle.pictures.proofs.promises.cut_at_spaces.Goals as goal

pub returns : goal.returns
returns c = record { same = line_same; no_space = line_spaceless }

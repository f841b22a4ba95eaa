use Rattle.stream.proofs.Knowing.{always_some, shown_is_true, sure_is_true, sure_of_some}
use Rattle.stream.proofs.promises.sure_is_true.Goals as goal

pub returns : goal.returns
returns c = record { sure = sure_is_true; number = sure_of_some; shown = shown_is_true; some = always_some }

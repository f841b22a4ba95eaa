use Rattle.text.proofs.Steps.{done}
use Rattle.text.proofs.reader.LineReader.is_done.Goals as goal

pub returns : goal.returns
returns c = done c.args.self _ _ c.next_word.ensures.bytes c.is_empty.ensures

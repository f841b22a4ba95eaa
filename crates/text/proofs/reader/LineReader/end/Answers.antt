use Rattle.std.proofs.Common.{sym, refl}
use Rattle.text.proofs.Steps.{done}
use Rattle.text.proofs.reader.LineReader.end.Goals as goal

pub returns-then-is_empty : goal.returns-then-is_empty
returns-then-is_empty c =
    let is_end = done c.args.self _ _ c.next_word-word.ensures.bytes c.if-is_empty.ensures in
    rw (sym is_end) refl

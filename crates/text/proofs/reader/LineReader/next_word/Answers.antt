use Rattle.std.proofs.Common.{arith}
use Rattle.text.proofs.Cutting.{next}
use Rattle.text.proofs.reader.LineReader.next_word.Goals as goal

pub returns : goal.returns
returns c =
    let line = c.args.self.now in
    let found =
    next line.end line.rest.now _ _ _ _ _ (omega arith) c.space_count.ensures.value c.split_at.ensures.back c.word_length.ensures.value c.split_at-2.ensures.front c.split_at-2.ensures.back in
    record { position = found.position; bytes = found.bytes; rest = found.rest }

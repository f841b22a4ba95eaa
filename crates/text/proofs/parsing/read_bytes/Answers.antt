use Rattle.std.proofs.Common.{Ok, vec_items, sym, ap, ◌∙◌, append-nil}
use Rattle.std.proofs.lemmas.Result.{err_from_is_err_and}
use Rattle.text.specs.Line.{left}
use Rattle.text.specs.Text.{bytes_to_end}
use Rattle.text.proofs.Gathering.{after, bytes_done, bytes_more, bytes_rejected}
use Rattle.text.proofs.parsing.read_bytes.Goals as goal

pub returns-in_err-byte : goal.returns-in_err-byte
returns-in_err-byte c =
    let p = err_from_is_err_and c.from_residual.result c.from_residual.ensures.1 in
    rw (p.1, p.2) (c.loop-words.invariant ∙ ap (after (vec_items c.loop-words.bytes)) (bytes_rejected (left c.loop-words.words) _ (sym c.loop-words-test.ensures) c.in_err-byte.ensures))

pub loop-words-preserved : goal.loop-words-preserved
loop-words-preserved c =
    c.loop-words.invariant
    ∙ bytes_more (vec_items c.loop-words.bytes) (left c.loop-words.words) (left c.byte.new.self) _ (sym c.loop-words-test.ensures) c.in_ok-byte.ensures
    ∙ ap (λ xs. after xs (bytes_to_end (left c.byte.new.self))) (sym c.in_ok-push.ensures.items)

pub returns : goal.returns
returns c =
    c.loop-words.invariant
    ∙ ap (after (vec_items c.loop-words.bytes)) (bytes_done (left c.loop-words.words) (sym c.loop-words-test.ensures))
    ∙ ap Ok (append-nil _)

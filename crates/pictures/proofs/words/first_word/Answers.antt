use Rattle.std.proofs.Common.{length, take, unwrap_or, ap, ◌∙◌}
use Rattle.pictures.proofs.Cutting.{first_is}
use Rattle.pictures.proofs.words.first_word.Goals as goal

pub returns : goal.returns
returns c =
    let line = c.args.line.now in
    ap (λ n. take n line) (c.unwrap_or.ensures ∙ ap (λ o. unwrap_or o (length line)) c.find_byte.ensures) ∙ first_is line

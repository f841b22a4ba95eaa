use Rattle.std.proofs.Common.{ap, ◌∙◌}
use Rattle.pictures.proofs.PgmChecked.{all_there, header_then_pixels}
use Rattle.pictures.specs.Faults.{then}
use Rattle.std.proofs.lemmas.Result.{err_from_is_err_and}
use Rattle.pictures.proofs.pgm_parsing.parse_pgm.Goals as goal

pub returns-in_err-picture-clause-value : goal.returns-in_err-picture-clause-value
returns-in_err-picture-clause-value c =
    let bytes = c.args.bytes.now in
    let p = err_from_is_err_and c.from_residual.result c.from_residual.ensures.1 in
    rw (p.1, p.2) (ap (λ r. then r (all_there bytes)) c.in_err-picture.ensures ∙ header_then_pixels bytes)

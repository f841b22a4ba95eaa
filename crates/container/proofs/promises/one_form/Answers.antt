use Rattle.std.proofs.Common.{suc, ◌++◌, length, refl, arith}
use Rattle.container.proofs.Playing.{written_form}
use Rattle.std.proofs.lemmas.List.{drop_at, length-append}
use Rattle.container.proofs.promises.one_form.Goals as goal

pub returns : goal.returns
returns c front bytes below e =
    written_form (suc (length (front ++ bytes))) (front ++ bytes) (length front) bytes (drop_at front bytes (length front) refl) below
    (omega (arith, length-append front bytes)) e

use Rattle.std.proofs.Common.{◌+◌, length, refl, ap, sym}
use Rattle.pictures.specs.Pgm.{plain_header}
use Rattle.pictures.proofs.PlainPgm.{plain_picture}
use Rattle.pictures.proofs.promises.plain_picture.Goals as goal

pub returns : goal.returns
returns c size pixels more p w q h l = (plain_picture size pixels more p w q h l, refl, refl, ap (λ n. length (plain_header size) + n) (sym l))

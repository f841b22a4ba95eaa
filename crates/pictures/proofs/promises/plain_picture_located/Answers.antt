use Rattle.std.proofs.Common.{refl, rules}
use Rattle.pictures.proofs.PlainPgm.{plain_picture_located}
use Rattle.pictures.proofs.promises.plain_picture_located.Goals as goal

pub returns : goal.returns
returns c size pixels more p w q h l = (plain_picture_located size pixels more p w q h l, refl, refl, search rules)

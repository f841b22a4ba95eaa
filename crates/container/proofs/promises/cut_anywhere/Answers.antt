use Rattle.std.proofs.Common.{◌++◌, length, take, refl}
use Rattle.container.specs.Container.{file_bytes}
use Rattle.container.proofs.Playing.{cut_play}
use Rattle.std.proofs.lemmas.List.{drop_at}
use Rattle.container.proofs.promises.cut_anywhere.Goals as goal

pub returns : goal.returns
returns c front ps kept r h =
    cut_play (front ++ take kept (file_bytes ps)) (length front) ps kept r h (drop_at front (take kept (file_bytes ps)) (length front) refl)

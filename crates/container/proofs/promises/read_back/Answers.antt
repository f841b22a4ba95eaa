use Rattle.std.proofs.Common.{◌++◌, length, refl}
use Rattle.container.specs.Container.{file_bytes}
use Rattle.container.proofs.FirstLine.{header_reads}
use Rattle.container.proofs.Playing.{plays_played, plays_written}
use Rattle.std.proofs.lemmas.List.{drop_at}
use Rattle.container.proofs.promises.read_back.Goals as goal

pub returns : goal.returns
returns c = record {
  header = λ h bytes answer across down step r. header_reads h across down step (c.reads_back.ensures.header h across down step) bytes answer r;
  packets = λ front ps r. plays_played (plays_written (front ++ file_bytes ps) (length front) ps r (drop_at front (file_bytes ps) (length front) refl));
}

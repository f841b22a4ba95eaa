use Rattle.text.proofs.ReadBack.{header_back, row_back, packet_back, worst_back}
use Rattle.text.proofs.promises.reads_back.Goals as goal

pub returns : goal.returns
returns c = record { header = header_back; row = row_back; packet = packet_back; worst = worst_back }

use Rattle.symbols.proofs.ReadBack.{bits_read_back, signed_read_back, levels_read_back}
use Rattle.symbols.proofs.symbols_read_back.Goals as goal

pub returns : goal.returns
returns c = record { bits = bits_read_back; signed = signed_read_back; levels = levels_read_back }

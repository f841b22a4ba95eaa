use Rattle.std.proofs.Common.{sym, arith, rules}
use Rattle.container.proofs.Packets.{at_end, fault_at, found_at}
use Rattle.container.proofs.reading.read_packet.Goals as goal

pub returns-then-position-file : goal.returns-then-position-file
returns-then-position-file c = record { value = sym (at_end c.args.file.now c.args.position (omega arith)); within = tt }

pub returns-in_err-found-clause-value : goal.returns-in_err-found-clause-value
returns-in_err-found-clause-value c = search (rules, fault_at)

pub returns-clause-value : goal.returns-clause-value
returns-clause-value c = search (rules, found_at)

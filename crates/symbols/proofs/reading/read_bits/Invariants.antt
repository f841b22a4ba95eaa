use Rattle.std.proofs.Common.{◌^◌, ◌<◌}
use Rattle.symbols.proofs.ReadSteps.{BitsLeft}
use Rattle.symbols.proofs.reading.read_bits.Given as goal

abbrev pub invariant-loop : goal.invariant-loop
invariant-loop l = BitsLeft l.count l.counter l.value l.initial.reader l.reader × (l.value < 2 ^ l.counter)

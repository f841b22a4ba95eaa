use Rattle.std.proofs.Common.{arith}
use Rattle.std.proofs.lemmas.Nat.{one_shl}
use Rattle.symbols.proofs.ReadSteps.{number_of}
use Rattle.symbols.specs.Class.{first_context}
use Rattle.symbols.proofs.reading.read_number.Goals as goal

pub returns-clause-read : goal.returns-clause-read
returns-clause-read c =
    let k = c.read_prefix-length.result in
    number_of (first_context c.args.class) k c.read_bits.result _ _ _ _ c.read_prefix-length.ensures.read c.read_bits.ensures.read (one_shl k 32 (omega arith))

use Rattle.std.proofs.Common.{◌≡◌, suc, ◌+◌, ◌-◌, ◌*◌, ◌%◌, ◌^◌, arith}
use Rattle.std.proofs.lemmas.Nat.{one_shl}
use Rattle.symbols.proofs.WriteSteps.{number_of}
use Rattle.symbols.specs.Class.{first_context}
use Rattle.symbols.proofs.writing.write_number.Goals as goal

pub returns : goal.returns
returns c =
    let k = c.exponent-length.result in
    let e : c.args.value + 1 - (1 * 2 ^ k) % 2 ^ 32 ≡ suc c.args.value - 2 ^ k = omega (arith, one_shl k 32 (omega arith)) in
    number_of (first_context c.args.class) c.args.value k _ _ _ _ c.exponent-length.ensures.is c.exponent-length.ensures.most e c.write_prefix.ensures c.write_bits.ensures

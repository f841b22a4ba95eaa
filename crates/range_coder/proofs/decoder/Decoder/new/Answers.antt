use Rattle.std.proofs.Common.{◌≡◌, get_or, sym, ◌∙◌, arith, rules}
use Rattle.bits.specs.Bits.{bits_of, skip}
use Rattle.bits.proofs.Prefixes.{first_byte}
use Rattle.range_coder.specs.Coding.{start_decoder}
use Rattle.range_coder.proofs.decoder.Decoder.new.Goals as goal

pub returns-clause-start : goal.returns-clause-start
unfolding start_decoder
returns-clause-start c =
    let bytes = c.args.bytes.now in
    let o : c.map_or.result ≡ get_or bytes 0 0 = search rules in
    λ i. record { range = 256; offset = (o ∙ sym (first_byte bytes (λ i. omega (arith, c.type_inv.bytes i)))) i; rest = skip 8 (bits_of bytes) }

-- The worked examples, computed.
use Rattle.std.proofs.Common.{refl}
use Rattle.frame.specs.Examples.{All, Drawn, drawn_examples, more_examples}
use Rattle.frame.specs.Promise.{AllMean, examples}
use Rattle.frame.specs.Frame.{block_at, past}
use Rattle.block.specs.Syntax.{read_block, read_flat, read_motion, read_prediction, read_residual}
use Rattle.block.specs.Transform.{clipped, floor16, inverse_transform, positive, reconstructed, residual, signed, sum4}
use Rattle.symbols.specs.Reading.{read_bits, read_number, read_prefix, read_signed}
use Rattle.range_coder.specs.Decisions.{learned, read_adaptive, read_bypass, start_contexts, start_reader}
use Rattle.range_coder.specs.Coding.{adapted, chosen, decided, decision, renormalised, split, start_decoder}
use Rattle.bits.specs.Bits.{bit, bits_of, prefix_value}

pub examples_read : AllMean examples
unfolding block_at past read_block read_flat read_motion read_prediction read_residual read_bits read_number read_prefix read_signed learned read_adaptive read_bypass start_contexts start_reader adapted chosen decided decision renormalised split start_decoder bit bits_of prefix_value
examples_read = (refl, (refl, (refl, (refl, tt))))

pub more_read : AllMean more_examples
unfolding block_at past read_block read_flat read_motion read_prediction read_residual read_bits read_number read_prefix read_signed learned read_adaptive read_bypass start_contexts start_reader adapted chosen decided decision renormalised split start_decoder bit bits_of prefix_value
more_read = (refl, tt)

pub examples_drawn : All Drawn drawn_examples
unfolding clipped floor16 inverse_transform positive reconstructed residual signed sum4
examples_drawn = (refl, (refl, (refl, (refl, (refl, tt)))))

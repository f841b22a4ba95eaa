use Rattle.std.proofs.Common.{◌∙◌, ap}
use Rattle.bits.specs.Bits.{bits_of}
use Rattle.range_coder.proofs.Stores.{zeros_after}
use Rattle.range_coder.proofs.storing.grown.Goals as goal

pub returns-clause-same : goal.returns-clause-same
returns-clause-same c = zeros_after _ 1024 62728 ∙ ap bits_of c.copy_from_slice.ensures.after

use Rattle.std.proofs.Common.{◌≡◌, drop}
use Rattle.text.specs.Line.{number_of}
use Rattle.text.proofs.Digits.{finish}
use Rattle.text.proofs.number.parse_number.Given as goal

abbrev pub invariant-loop-byte : goal.invariant-loop-byte
invariant-loop-byte l = number_of l.limit l.word ≡ finish l.limit l.value (drop l.byte-index l.word)

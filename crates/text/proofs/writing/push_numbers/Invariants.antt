use Rattle.std.proofs.Common.{◌≡◌, ◌++◌, map, string_bytes, decimal}
use Rattle.text.specs.Text.{spaced}
use Rattle.text.proofs.Spacing.{to_write}
use Rattle.text.proofs.writing.push_numbers.Given as goal

abbrev pub invariant-loop-number : goal.invariant-loop-number
invariant-loop-number l =
    string_bytes l.line ++ to_write l.numbers l.number-index
    ≡ string_bytes l.initial.line ++ spaced (map decimal l.numbers)

use Rattle.std.proofs.Common.{◌≡◌, vec_items}
use Rattle.text.specs.Line.{left}
use Rattle.text.specs.Text.{bytes_to_end}
use Rattle.text.proofs.Gathering.{after, count}
use Rattle.text.proofs.parsing.read_bytes.Given as goal

abbrev pub invariant-loop-words : goal.invariant-loop-words
invariant-loop-words l = bytes_to_end (left l.initial.words) ≡ after (vec_items l.bytes) (bytes_to_end (left l.words))

abbrev pub decreases-loop-words : goal.decreases-loop-words
decreases-loop-words l = count (left l.words)

use Rattle.std.proofs.Common.{◌≡◌, ◌-◌, length, take}
use Rattle.text.specs.Line.{left}
use Rattle.text.specs.Text.{pixels_of}
use Rattle.text.proofs.Gathering.{after}
use Rattle.text.proofs.parsing.fill_row.Given as goal

abbrev pub invariant-loop-pixel : goal.invariant-loop-pixel
invariant-loop-pixel l =
    pixels_of (length l.initial.row) (left l.initial.words)
    ≡ after (take l.pixel-index l.row) (pixels_of (length l.initial.row - l.pixel-index) (left l.words))

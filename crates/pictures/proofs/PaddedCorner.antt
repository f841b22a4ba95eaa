-- A padded picture has the picture in its upper left: the index taken apart gives back its column and row.
use Rattle.std.proofs.Common.{◌≡◌, ℕ, ◌+◌, ◌-◌, ◌*◌, ◌/◌, ◌%◌, ◌<◌, min, max, List, get_or, ap, ◌∙◌, arith}
use native.Mathlib.Nat.{max-eq_left, min-eq_left}
use lib.Arith.{digits_div, digits_mod}
use Rattle.pictures.specs.Picture.{padded, padded_picture_pixel}
use Rattle.pictures.specs.declared.forms.Size.{Size}

module _ (width column row : ℕ) (inside : column < width) where
  wide : max (padded width) 1 ≡ padded width
  wide = max-eq_left (omega arith)

  column_back : (row * padded width + column) % max (padded width) 1 ≡ column
  column_back = ap (λ n. (row * padded width + column) % n) wide ∙ digits_mod row (omega arith)

  row_back : (row * padded width + column) / max (padded width) 1 ≡ row
  row_back = ap (λ n. (row * padded width + column) / n) wide ∙ digits_div row (omega arith)

pub kept : (pixels : List ℕ) (size : Size) (column row : ℕ) → column < size.width → row < size.height →
    padded_picture_pixel pixels size (row * padded size.width + column) ≡ get_or pixels (row * size.width + column) 0
kept pixels size column row inside below =
    let across : min column (size.width - 1) ≡ column = min-eq_left (omega arith) in
    let down : min row (size.height - 1) ≡ row = min-eq_left (omega arith) in
    rw (column_back size.width column row inside, row_back size.width column row inside, across, down)

-- How long a gap is: a loop goes on to n, byte by byte.
use Rattle.std.proofs.Common.{◌≡◌, ℕ, ◌+◌, ◌<◌, ◌≤◌, Bool, true, false, List, [], length, get_or, drop, sym, refl, ap, ◌∙◌, arith}
use Rattle.pictures.specs.Pgm.{comment_after, gap, in_gap}
use Rattle.std.proofs.lemmas.List.{drop_all, drop_more}
use Rattle.std.proofs.lemmas.Bool.{cond-false, cond-true}

-- of whitespace and comments
gap_none : (comment : Bool) → gap comment [] ≡ 0
unfolding gap
gap_none comment = refl

module _ (comment : Bool) (bytes : List ℕ) (i n : ℕ) (goes : i + gap comment (drop i bytes) ≡ n) where
  gap_yes : i < length bytes → in_gap comment (get_or bytes i 0) ≡ true → gap comment (drop i bytes) ≡ 1 + gap (comment_after comment (get_or bytes i 0)) (drop (i + 1) bytes)
  unfolding gap
  gap_yes inside e = ap (gap comment) (drop_more bytes i 0 inside) ∙ cond-true _ _ _ e

  gap_no : i < length bytes → in_gap comment (get_or bytes i 0) ≡ false → gap comment (drop i bytes) ≡ 0
  unfolding gap
  gap_no inside e = ap (gap comment) (drop_more bytes i 0 inside) ∙ cond-false _ _ _ e

  pub gap_more : (next : Bool) → i < length bytes → true ≡ in_gap comment (get_or bytes i 0) → next ≡ comment_after comment (get_or bytes i 0) →
      i + 1 + gap next (drop (i + 1) bytes) ≡ n
  gap_more next inside e f = rw f (omega (arith, gap_yes inside (sym e)))

  pub gap_stop : i < length bytes → false ≡ in_gap comment (get_or bytes i 0) → i ≡ n
  gap_stop inside e = omega (arith, gap_no inside (sym e))

  pub gap_end : length bytes ≤ i → i ≡ n
  gap_end past = let none : gap comment (drop i bytes) ≡ 0 = ap (gap comment) (drop_all i bytes past) ∙ gap_none comment in omega arith

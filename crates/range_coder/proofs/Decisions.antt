-- Decisions one after the other: what is read or written of a list that is joined of two.
use Rattle.std.proofs.Common.{◌≡◌, ℕ, ◌+◌, ◌≤◌, List, [], ◌∷◌, ◌++◌, sym, refl, ap, ◌∙◌, arith}
use Rattle.range_coder.specs.Coding.{encoded}
use Rattle.range_coder.specs.Decisions.{ReaderState, WriterState, Decision, adaptive, bypass, Gives, after, read_adaptive, read_bypass, written, learned}
use Rattle.range_coder.specs.Code.{HasWritten, writer_of}
use Rattle.range_coder.specs.declared.writer.Writer.{Writer}

pub gives_front : (r : ReaderState) (xs ys : List Decision) → Gives r (xs ++ ys) → Gives r xs
gives_front r [] ys g = tt
gives_front r (adaptive c b ∷ xs) ys g = (g.0, gives_front (read_adaptive c r).next xs ys g.1)
gives_front r (bypass b ∷ xs) ys g = (g.0, gives_front (read_bypass r).next xs ys g.1)

pub gives_back : (r : ReaderState) (xs ys : List Decision) → Gives r (xs ++ ys) → Gives (after r xs) ys
unfolding after
gives_back r [] ys g = g
gives_back r (adaptive c b ∷ xs) ys g = gives_back (read_adaptive c r).next xs ys g.1
gives_back r (bypass b ∷ xs) ys g = gives_back (read_bypass r).next xs ys g.1

pub after_append : (r : ReaderState) (xs ys : List Decision) → after r (xs ++ ys) ≡ after (after r xs) ys
unfolding after
after_append r [] ys = refl
after_append r (adaptive c b ∷ xs) ys = after_append (read_adaptive c r).next xs ys
after_append r (bypass b ∷ xs) ys = after_append (read_bypass r).next xs ys

pub written_append : (xs ys : List Decision) (w : WriterState) → written (xs ++ ys) w ≡ written ys (written xs w)
unfolding written
written_append [] ys w = refl
written_append (adaptive c b ∷ xs) ys w = written_append xs ys (record { encoder = encoded (w.contexts c) b w.encoder; contexts = learned w.contexts c b })
written_append (bypass b ∷ xs) ys w = written_append xs ys (record { encoder = encoded 128 b w.encoder; contexts = w.contexts })

pub has_written_none : (a : Writer) → HasWritten 0 [] a a
unfolding written
has_written_none a = record { same = λ _. refl; spent = omega arith }

pub has_written_then : (m n : ℕ) (xs ys : List Decision) (a b c : Writer) → HasWritten m xs a b → HasWritten n ys b c → HasWritten (m + n) (xs ++ ys) a c
has_written_then m n xs ys a b c f g = record {
  same = λ room. g.same (omega (arith, f.spent)) ∙ ap (written ys) (f.same (omega arith)) ∙ sym (written_append xs ys (writer_of a));
  spent = omega (arith, f.spent, g.spent);
}

pub has_written_within : (m n : ℕ) (xs : List Decision) (a b : Writer) → m ≤ n → HasWritten m xs a b → HasWritten n xs a b
has_written_within m n xs a b h f = record { same = λ room. f.same (omega arith); spent = omega (arith, f.spent) }

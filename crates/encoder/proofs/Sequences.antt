-- One member put into a sequence: it stands there, and those before it are as they were.
use Rattle.std.proofs.Common.{◌≡◌, ℕ, ◌<◌, refl, arith}
use Rattle.std.proofs.lemmas.Bool.{eq-eqb, ne_eqb}
use Rattle.encoder.specs.Session.{put_at}

pub put_here : (A : Type 0) (old : ℕ → A) (n : ℕ) (a : A) → put_at n a old n ≡ a
put_here A old n a = rw (eq-eqb n n refl)

pub put_before : (A : Type 0) (old : ℕ → A) (n : ℕ) (a : A) (i : ℕ) → i < n → put_at n a old i ≡ old i
put_before A old n a i l = rw (ne_eqb i n (λ e. let f : ⊥ = omega arith in f))

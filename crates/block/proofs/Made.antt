-- An array that a closure makes place by place, where no call changes the closure: of what it made at a place k, P k holds.
use Rattle.std.proofs.Common.{◌≡◌, ℕ, zero, suc, ◌+◌, ◌<◌, ◌≤◌, List, get_or, ⊎_elim, subst, arith}
use Rattle.std.proofs.lemmas.Bool.{cases_lt}
use Rattle.std.specs.Array.{IsFromFnResult, IsFromFnResultFrom}
use Rattle.std.specs.Fn.{Called}
use denote.Param.Members.{Mut}

module _ {F B : Type 0} (g : Mut F (ℕ × Unit {0}) B) (f : F) (default : B) (P : ℕ → B → Type 0) (n : ℕ) (call : (k : ℕ) (y : B) (q : F) → k < n → Called g f (k, tt) y q → P k y × (q ≡ f)) where
  made_from : (ys : List B) (m i : ℕ) → i + m ≡ n → IsFromFnResultFrom g f ys i m → (k : ℕ) → i ≤ k → k < n → P k (get_or ys k default)
  made_from ys zero i e made k least most = absurd (omega arith)
  made_from ys (suc m) i e (q, y, is, called, rest) k least most =
      let here = call i y q (omega arith) called in
      ⊎_elim (λ (lt : i < k). made_from ys m (i + 1) (omega arith) (subst (λ p. IsFromFnResultFrom g p ys (i + 1) m) here.1 rest) k (omega arith) most)
      (λ (le : k ≤ i). let same : k ≡ i = omega arith in rw (same, is.1 default) here.0) (cases_lt i k)

  pub each_made : (ys : List B) → IsFromFnResult g f ys n → (k : ℕ) → k < n → P k (get_or ys k default)
  each_made ys made k h = made_from ys n 0 (omega arith) made.each k (omega arith) h

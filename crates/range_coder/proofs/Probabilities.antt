-- Contexts in a list: at the start, and after one of them has learned.
use Rattle.std.proofs.Common.{◌≡◌, ℕ, zero, suc, ◌<◌, ◌≤◌, Bool, true, false, cond, eqb, ◌≢◌, List, length, get_or, set, replicate, refl, ◌∙◌, inl, inr, eqb-true}
use mathlib.Core.Path.{fun_ext}
use borrow.Author.Tests.{eqb_apart}
use Rattle.std.proofs.lemmas.List.{get_or-set_same, get_or-set_other}
use Rattle.std.proofs.lemmas.Bool.{cases_eq}
use Rattle.range_coder.specs.Code.{contexts_in}
use Rattle.range_coder.specs.Coding.{adapted}
use Rattle.range_coder.specs.Decisions.{learned, start_contexts}
use Rattle.range_coder.proofs.Coding.{adapted_some, adapted_below}

-- copies of a value, with the same value past them
pub copies : (n v i : ℕ) → get_or (replicate n v) i v ≡ v
copies zero v i = refl
copies (suc n) v zero = refl
copies (suc n) v (suc i) = copies n v i

pub start_copies : (n : ℕ) → contexts_in (replicate n 128) ≡ start_contexts
unfolding start_contexts
start_copies n = fun_ext (copies n 128)

pub learned_set : (xs : List ℕ) (c v : ℕ) (b : Bool) → c < length xs → v ≡ adapted (contexts_in xs c) b
    → contexts_in (set xs c v) ≡ learned (contexts_in xs) c b
unfolding learned
learned_set xs c v b h e = fun_ext (λ d. go d (eqb d c) refl)
  where
    go : (d : ℕ) (t : Bool) → eqb d c ≡ t → get_or (set xs c v) d 128 ≡ cond t (adapted (contexts_in xs c) b) (get_or xs d 128)
    go d true q = rw (eqb-true d c q) (get_or-set_same xs c v 128 h ∙ e)
    go d false q = let ne : d ≢ c = eqb_apart d c q in rw get_or-set_other

-- a probability is at least 1 and below 256
abbrev pub Probability : ℕ → Type 0
Probability p = (1 ≤ p) × (p ≤ 255)

pub adapted_probability : (p : ℕ) (b : Bool) → Probability p → Probability (adapted p b)
adapted_probability p b h = (adapted_some p b h.0, adapted_below p b h.1)

pub fair_set : (xs : List ℕ) (c v : ℕ) → c < length xs → Probability v
    → ((d : ℕ) → d < 64 → Probability (get_or xs d 128)) → (d : ℕ) → d < 64 → Probability (get_or (set xs c v) d 128)
fair_set xs c v h p f d l = elim (cases_eq d c) [
  | inl q ↦ rw (q, get_or-set_same xs c v 128 h) p
  | inr ne ↦ rw (get_or-set_other xs c d v 128 ne) (f d l)
]

-- A step in range, and one that is not.
use Rattle.std.proofs.Common.{◌≡◌, ℕ, ◌<◌, ◌≤◌, true, false, ◌&&◌, leb, ◌⊎◌, inl, inr}
use Rattle.std.proofs.lemmas.Bool.{and_left, and_right, le-leb, lt-leb}

pub step_in_range : (n : ℕ) → 1 ≤ n → n ≤ 64 → (leb 1 n && leb n 64) ≡ true
step_in_range n l h = rw (le-leb 1 n l, le-leb n 64 h)

pub step_out_of_range : (n : ℕ) → (n < 1) ⊎ (64 < n) → (leb 1 n && leb n 64) ≡ false
step_out_of_range n (inl h) = and_left (leb 1 n) (leb n 64) (lt-leb 1 n h)
step_out_of_range n (inr h) = and_right (leb 1 n) (leb n 64) (lt-leb n 64 h)

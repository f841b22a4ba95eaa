-- Whether two blocks are within half a step of one another, found pixel by pixel.
use Rattle.std.proofs.Common.{◌≡◌, ℕ, ◌+◌, ◌<◌, ◌≤◌, Bool, true, false, ◌&&◌, leb, List, get_or, MatchBool, refl, arith, below_more}
use Rattle.std.proofs.lemmas.Bool.{leb-true, leb-false}
use Rattle.block.specs.Transform.{distance}

-- what an answer says of the first n pixels
abbrev pub CloseBelow : (half : ℕ) → (a b : List ℕ) → (n : ℕ) → Bool → Type 0
CloseBelow half a b n close = MatchBool close ((i : ℕ) → i < n → distance (get_or a i 0) (get_or b i 0) ≤ half) ((i : ℕ) × (i < n) × (half < distance (get_or a i 0) (get_or b i 0)))

pub close_more : (half : ℕ) (a b : List ℕ) (n : ℕ) (close : Bool) (d : ℕ) → d ≡ distance (get_or a n 0) (get_or b n 0) → CloseBelow half a b n close → CloseBelow half a b (n + 1) (close && leb d half)
close_more half a b n true d e near = go (leb d half) refl
  where
    go : (test : Bool) → leb d half ≡ test → CloseBelow half a b (n + 1) test
    go true t = below_more (λ i. distance (get_or a i 0) (get_or b i 0) ≤ half) n near (omega (arith, leb-true d half t))
    go false t = (n, omega arith, omega (arith, leb-false d half t))
close_more half a b n false d e (i, h, far) = (i, omega arith, far)

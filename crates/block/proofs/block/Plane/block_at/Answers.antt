use Rattle.std.proofs.Common.{◌≡◌, ℕ, ◌+◌, ◌*◌, ◌/◌, ◌%◌, List, [], ◌∷◌, get_or, ap, ◌∙◌, arith, rules}
use Rattle.block.specs.Picture.{picture_of}
use Rattle.block.proofs.Made.{each_made}
use Rattle.block.proofs.Motion.{index_from_start}
use Rattle.block.proofs.Passes.{below_four}
use Rattle.block.proofs.block.Plane.block_at.Goals as goal

pub returns : goal.returns
returns c x y hx hy =
    let rows : List (List ℕ) = c.four_pixels.result ∷ c.four_pixels-2.result ∷ c.four_pixels-3.result ∷ c.four_pixels-4.result ∷ [] in
    let pixels : List ℕ = c.args.self.pixels.now in
    let across : (4 * y + x) % 4 ≡ x = omega arith in
    let down : (4 * y + x) / 4 ≡ y = omega arith in
    let there : (v start : ℕ) → start ≡ (c.args.row * c.args.self.size.width + c.args.column) + v * c.args.self.size.width → get_or pixels (start + x) 0 ≡ picture_of c.args.self (c.args.column + x) (c.args.row + v)
    = λ v start e. ap (λ i. get_or pixels i 0) (index_from_start c.args.self.size.width c.args.column c.args.row x v start e) in
    each_made _ _ 0 (λ k p. p ≡ get_or (get_or rows (k / 4) []) (k % 4) 0) 16 (λ k p q h called. search rules) _ c.from_fn.ensures.items (4 * y + x) (omega arith)
    ∙ rw (across, down) (below_four (λ v. get_or (get_or rows v []) x 0 ≡ picture_of c.args.self (c.args.column + x) (c.args.row + v))
    (c.four_pixels.ensures x hx ∙ there 0 _ (simp (c.from.ensures, c.from-2.ensures, c.from-stride.ensures) (omega arith)))
    (c.four_pixels-2.ensures x hx ∙ there 1 _ (simp (c.from.ensures, c.from-2.ensures, c.from-stride.ensures) (omega arith)))
    (c.four_pixels-3.ensures x hx ∙ there 2 _ (simp (c.from.ensures, c.from-2.ensures, c.from-stride.ensures) (omega arith)))
    (c.four_pixels-4.ensures x hx ∙ there 3 _ (simp (c.from.ensures, c.from-2.ensures, c.from-stride.ensures) (omega arith))) y hy)

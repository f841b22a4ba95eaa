-- The transform is its own inverse, up to 16: it is so in one dimension, up to 4, and a block is transformed one dimension at a time.
use Rattle.std.proofs.Common.{◌≡◌, ℕ, zero, suc, ◌<◌, Bool, true, false, ℤ, pos, ◌+ℤ◌, ◌*ℤ◌, sym, refl, ap, ◌∙◌, arith, lit<}
use mathlib.Core.Path.{fun_ext}
use Rattle.std.proofs.lemmas.Int.{ints}
use Rattle.block.specs.Transform.{positive, signed, sum4, inverse_transform}
use Rattle.block.specs.Stages.{transform4}

signed_swap : (a b : Bool) (z : ℤ) → signed a (signed b z) ≡ signed b (signed a z)
unfolding signed
signed_swap true b z = refl
signed_swap false true z = refl
signed_swap false false z = refl

signed_sum4 : (b : Bool) (f : ℕ → ℤ) → signed b (sum4 f) ≡ sum4 (λ i. signed b (f i))
unfolding signed sum4
signed_sum4 true f = refl
signed_sum4 false f = omega (arith, ints)

sum4_add : (f g : ℕ → ℤ) → sum4 (λ i. f i +ℤ g i) ≡ sum4 f +ℤ sum4 g
unfolding sum4
sum4_add f g = omega (arith, ints)

-- rows may be summed first, or columns
pub sum4_swap : (f : ℕ → ℕ → ℤ) → sum4 (λ u. sum4 (λ v. f u v)) ≡ sum4 (λ v. sum4 (λ u. f u v))
unfolding sum4
sum4_swap f = sym (sum4_add (f 0) (λ v. f 1 v +ℤ (f 2 v +ℤ f 3 v))
    ∙ ap (λ z. sum4 (f 0) +ℤ z) (sum4_add (f 1) (λ v. f 2 v +ℤ f 3 v)
    ∙ ap (λ z. sum4 (f 1) +ℤ z) (sum4_add (f 2) (f 3))))

signed_four : (b : Bool) (z : ℤ) → signed b (pos 4 *ℤ z) ≡ pos 4 *ℤ signed b z
unfolding signed
signed_four true z = refl
signed_four false z = omega (arith, ints)

sum4_four : (f : ℕ → ℤ) → sum4 (λ i. pos 4 *ℤ f i) ≡ pos 4 *ℤ sum4 f
unfolding sum4
sum4_four f = omega (arith, ints)

transform4_four : (f : ℕ → ℤ) (x : ℕ) → transform4 (λ u. pos 4 *ℤ f u) x ≡ pos 4 *ℤ transform4 f x
unfolding transform4
transform4_four f x = ap sum4 (fun_ext (λ u. signed_four (positive u x) (f u))) ∙ sum4_four (λ u. signed (positive u x) (f u))

pub sum4_same : (f g : ℕ → ℤ) → ((i : ℕ) → i < 4 → f i ≡ g i) → sum4 f ≡ sum4 g
unfolding sum4
sum4_same f g e = rw (e 0 (lit< tt), e 1 (lit< tt), e 2 (lit< tt), e 3 (lit< tt))

pub transform4_same : (f g : ℕ → ℤ) (x : ℕ) → ((u : ℕ) → u < 4 → f u ≡ g u) → transform4 f x ≡ transform4 g x
unfolding transform4
transform4_same f g x e = sum4_same _ _ (λ u hu. ap (signed (positive u x)) (e u hu))

-- four values transformed twice are four times what they were: any two basis functions agree at half of the places, and one with itself at all four
transform4_twice : (f : ℕ → ℤ) (x : ℕ) → x < 4 → transform4 (transform4 f) x ≡ pos 4 *ℤ f x
unfolding transform4 sum4 signed positive
transform4_twice f zero h = omega (arith, ints)
transform4_twice f (suc zero) h = omega (arith, ints)
transform4_twice f (suc (suc zero)) h = omega (arith, ints)
transform4_twice f (suc (suc (suc zero))) h = omega (arith, ints)
transform4_twice f (suc (suc (suc (suc n)))) h = absurd (omega arith)

pub by_columns : (c : ℕ → ℕ → ℤ) (x y : ℕ) → inverse_transform c x y ≡ transform4 (λ u. transform4 (c u) y) x
unfolding inverse_transform transform4
by_columns c x y = ap sum4 (fun_ext (λ u. sym (signed_sum4 (positive u x) (λ v. signed (positive v y) (c u v)))))

pub by_rows : (c : ℕ → ℕ → ℤ) (x y : ℕ) → inverse_transform c x y ≡ transform4 (λ v. transform4 (λ u. c u v) x) y
unfolding inverse_transform transform4
by_rows c x y =
    sum4_swap (λ u v. signed (positive u x) (signed (positive v y) (c u v)))
    ∙ ap sum4 (fun_ext (λ v. ap sum4 (fun_ext (λ u. signed_swap (positive u x) (positive v y) (c u v))) ∙ sym (signed_sum4 (positive v y) (λ u. signed (positive u x) (c u v)))))

pub transform_same : (b c : ℕ → ℕ → ℤ) (x y : ℕ) → ((u v : ℕ) → u < 4 → v < 4 → b u v ≡ c u v) → inverse_transform b x y ≡ inverse_transform c x y
transform_same b c x y e =
    by_columns b x y
    ∙ transform4_same _ (λ u. transform4 (c u) y) x (λ u hu. transform4_same (b u) (c u) y (λ v hv. e u v hu hv))
    ∙ sym (by_columns c x y)

-- columns are undone first, and rows then
pub inverse : (d : ℕ → ℕ → ℤ) (x y : ℕ) → x < 4 → y < 4 → inverse_transform (inverse_transform d) x y ≡ pos 4 *ℤ (pos 4 *ℤ d x y)
inverse d x y hx hy =
    by_columns (inverse_transform d) x y
    ∙ ap (λ f. transform4 f x) (fun_ext (λ u. ap (λ f. transform4 f y) (fun_ext (λ v. by_rows d u v)) ∙ transform4_twice (λ y'. transform4 (λ x'. d x' y') u) y hy))
    ∙ transform4_four (transform4 (λ x'. d x' y)) x
    ∙ ap (λ z. pos 4 *ℤ z) (transform4_twice (λ x'. d x' y) x hx)

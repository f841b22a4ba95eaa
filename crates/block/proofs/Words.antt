-- Numbers that went through a machine word and back are what they were.
use Rattle.std.proofs.Common.{◌≡◌, ℕ, suc, ◌-◌, ◌^◌, ◌≤◌, min, Bool, true, false, ℤ, pos, negsuc, ◌+ℤ◌, ◌-ℤ◌, ◌*ℤ◌, nat_abs, refl, ap, ◌∙◌, arith, w32, w64, SFits, to_z, of_z}
use borrow.Author.Differences.{up, down}
use lib.Signed.{shr_z, mag_shr}
use Rattle.std.proofs.lemmas.Nat.{mul-le}
use Rattle.std.proofs.lemmas.Int.{ints, to_z-of_z}
use Rattle.block.specs.Transform.{clipped, floor16, signed}
use Rattle.block.proofs.Near.{floor16_bounds}

shift_is : (z : ℤ) → shr_z z 16 ≡ floor16 z
unfolding floor16
shift_is (pos n) = refl
shift_is (negsuc n) = refl

module _ (z : ℤ) (small : nat_abs z ≤ 2 ^ 41) where
  pub sixteenth_is : to_z w64 (of_z w64 (shr_z (to_z w64 (of_z w64 (to_z w64 (of_z w64 z) +ℤ pos 8))) 16)) ≡ floor16 (z +ℤ pos 8)
  sixteenth_is =
      let sum : to_z w64 (of_z w64 (to_z w64 (of_z w64 z) +ℤ pos 8)) ≡ z +ℤ pos 8 = omega (arith, ints) in
      let whole : SFits w64 (z +ℤ pos 8) = omega (arith, ints) in
      let fits : SFits w64 (shr_z (z +ℤ pos 8) 16) = omega (arith, mag_shr (z +ℤ pos 8) 16, whole.sfits) in
      ap (λ k. to_z w64 (of_z w64 (shr_z k 16))) sum ∙ to_z-of_z w64 (shr_z (z +ℤ pos 8) 16) fits ∙ shift_is (z +ℤ pos 8)

  pub sixteenth_small : nat_abs (floor16 (z +ℤ pos 8)) ≤ 2 ^ 41
  sixteenth_small = omega (arith, ints, floor16_bounds (z +ℤ pos 8))

-- a step of at most 64 times a level of 32 bits
pub product_small : (s : ℕ) (z : ℤ) → s ≤ 64 → SFits w32 z → nat_abs (pos s *ℤ z) ≤ 2 ^ 37
product_small s (pos n) h f = mul-le s n 64 (2 ^ 31) h (omega (arith, ints))
product_small s (negsuc n) h f = omega (arith, ints, mul-le s (suc n) 64 (2 ^ 31) h (omega (arith, ints)))

module _ (s : ℕ) (z a b : ℤ) (most : s ≤ 64) (fits : SFits w32 z) (ea : a ≡ pos s) (eb : b ≡ to_z w32 (of_z w32 z)) where
  product : to_z w64 (of_z w64 a) *ℤ to_z w64 (of_z w64 b) ≡ pos s *ℤ z
  product =
      let pa : to_z w64 (of_z w64 a) ≡ pos s = omega (arith, ints) in
      let pb : to_z w64 (of_z w64 b) ≡ z = omega (arith, ints) in
      rw (pa, pb)

  pub product_fits : SFits w64 (to_z w64 (of_z w64 a) *ℤ to_z w64 (of_z w64 b))
  product_fits = rw product (omega (arith, ints, product_small s z most fits))

  pub product_is : to_z w64 (of_z w64 (to_z w64 (of_z w64 a) *ℤ to_z w64 (of_z w64 b))) ≡ pos s *ℤ z
  product_is = to_z-of_z w64 _ product_fits ∙ product

-- a pixel as `omega` reads it
pub clipped_is : (z : ℤ) → clipped z ≡ min (up z - down z) 255
unfolding clipped
clipped_is (pos n) = omega arith
clipped_is (negsuc n) = omega arith

-- what a level is at a pixel, as the sign there says
module _ (b : Bool) (s : ℕ) (level amount : ℤ) (fits : SFits w32 level) (is : amount ≡ pos s *ℤ to_z w32 (of_z w32 level)) (small : nat_abs amount ≤ 2 ^ 37) where
  whole : amount ≡ pos s *ℤ level
  whole = is ∙ ap (λ z. pos s *ℤ z) (to_z-of_z w32 level fits)

  pub where_positive : true ≡ b → to_z w64 (of_z w64 amount) ≡ signed b (pos s *ℤ level)
  unfolding signed
  where_positive e = rw (← e, ← whole) (omega (arith, ints))

  pub where_negative : false ≡ b → to_z w64 (of_z w64 (pos 0 -ℤ to_z w64 (of_z w64 amount))) ≡ signed b (pos s *ℤ level)
  unfolding signed
  where_negative e = rw (← e, ← whole) (omega (arith, ints))

-- Zeros after a list change nothing that is read from it, since past its end it reads as zeros already.
use Rattle.std.proofs.Common.{◌≡◌, ℕ, zero, suc, ◌-◌, ◌/◌, ◌%◌, ◌^◌, false, eqb, List, [], ◌∷◌, ◌++◌, get_or, replicate, refl, ap}
use mathlib.Core.Path.{fun_ext}
use Rattle.bits.specs.Bits.{bits_of, bits_from}
use Rattle.frame.specs.Promise.{ZerosIgnored}

padded : {A : Type 0} (xs : List A) (n : ℕ) (z : A) (k : ℕ) → get_or (xs ++ replicate n z) k z ≡ get_or xs k z
padded [] zero z k = refl
padded [] (suc n) z zero = refl
padded [] (suc n) z (suc k) = padded [] n z k
padded (x ∷ xs) n z zero = refl
padded (x ∷ xs) n z (suc k) = padded xs n z k

pub zeros_ignored : ZerosIgnored
unfolding bits_of bits_from
zeros_ignored = record {
  bits = λ bs n. fun_ext (λ k. padded bs n false k);
  bytes = λ bytes n. fun_ext (λ k. ap (λ byte. eqb (byte / 2 ^ (7 - k % 8) % 2) 1) (padded bytes n 0 (k / 8)));
}

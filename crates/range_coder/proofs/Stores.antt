-- Bytes with zeros after them have the same bits.
use Rattle.std.proofs.Common.{◌≡◌, ℕ, ◌+◌, ◌-◌, ◌/◌, List, ◌++◌, length, get_or, drop, replicate, sym, ◌∙◌, inl, inr}
use mathlib.Core.Path.{fun_ext}
use Rattle.std.proofs.Math.Seq.{get_or-append_right}
use Rattle.std.proofs.lemmas.List.{get_or_past, get_or_append_left, get_or-drop}
use Rattle.std.proofs.lemmas.Bool.{cases_lt}
use Rattle.bits.specs.Bits.{bits_of}
use Rattle.bits.proofs.Positions.{bit_same}
use Rattle.range_coder.proofs.Probabilities.{copies}

pub zeros_after : (xs : List ℕ) (k n : ℕ) → bits_of (xs ++ drop k (replicate n 0)) ≡ bits_of xs
zeros_after xs k n = fun_ext (λ i. bit_same (xs ++ drop k (replicate n 0)) xs i (byte (i / 8)))
  where
    byte : (i : ℕ) → get_or (xs ++ drop k (replicate n 0)) i 0 ≡ get_or xs i 0
    byte i = elim (cases_lt i (length xs)) [
      | inl l ↦ get_or_append_left xs (drop k (replicate n 0)) 0 i l
      | inr l ↦ get_or-append_right xs (drop k (replicate n 0)) i 0 l ∙ get_or-drop k (replicate n 0) (i - length xs) 0
          ∙ copies n 0 (k + (i - length xs)) ∙ sym (get_or_past xs i 0 l)
    ]

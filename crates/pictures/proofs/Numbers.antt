-- The digits of a number mean that number.
use Rattle.std.proofs.Common.{◌≡◌, ℕ, ◌^◌, ◌<◌, true, Some, decimal, arith, rules}
use Rattle.pictures.specs.Bytes.{size_of, value, value_after}
use Rattle.std.proofs.lemmas.Fmt.{digits_decimal, digits_value-decimal}
use Rattle.std.proofs.lemmas.Str.Parse.{IsNumeralModel, numerals_by_fold}
use Rattle.std.proofs.lemmas.Bool.{lt-ltb}
use Rattle.std.specs.Str.{all_ascii_digits}

own : IsNumeralModel (λ ds. all_ascii_digits ds ≡ true) (value_after 0)
own = numerals_by_fold _ (search rules) value_after (search rules)

pub digits_of : (n : ℕ) → n < 2 ^ 64 → all_ascii_digits (decimal n) ≡ true
digits_of n h = digits_decimal own n h

pub size_decimal : (n : ℕ) → 0 < n → n < 2 ^ 16 → size_of (decimal n) ≡ Some n
unfolding size_of
size_decimal n some small =
    let h : n < 2 ^ 64 = omega arith in
    let same : value (decimal n) ≡ n = digits_value-decimal own n h in
    rw (digits_decimal own n h, same, lt-ltb 0 n some, lt-ltb n (2 ^ 16) small)

-- The header line of a file, which is the text form's with a newline after it. Assumes nothing: these are definitions.
use Rattle.std.specs.Prelude.{◌≡◌, ℕ, ◌+◌, ◌<◌, ◌≤◌, List, [], ◌∷◌, ◌++◌, length, take, Ok, Err, IsUtf8, Result, ◌==◌}
use Rattle.frame.specs.declared.rejection.Rejection.{Rejection}
use Rattle.frame.specs.declared.rejection.Rejection.TheVariants.{BadText}
use Rattle.std.specs.List.{position_or_len}
use Rattle.std.specs.Str.{IsValidUpTo}
use Rattle.text.specs.Text.{header_of, header_text}
use Rattle.frame.specs.declared.header.VideoHeader.{VideoHeader}

abbrev pub header_line : VideoHeader → List ℕ
header_line h = header_text h ++ 10 ∷ []

-- how many bytes stand before the first newline
abbrev pub line_length : List ℕ → ℕ
line_length bytes = position_or_len (λ b. b == 10) bytes

abbrev pub first_line : List ℕ → List ℕ
first_line file = take (line_length file) file

-- with the position of the first packet
abbrev pub positioned : Result VideoHeader Rejection → ℕ → Result (VideoHeader × ℕ) Rejection
positioned (Ok h) n = Ok (h, n)
positioned (Err e) n = Err e

-- what is answered for a file: a line without its newline is rejected at its end, and one that is no text where it ceases to be
pub record HeaderRead (file : List ℕ) (answer : Result (VideoHeader × ℕ) Rejection) : Type 0 where
  pub unended : length file ≤ line_length file → answer ≡ Err (BadText (length file))
  pub as_text : line_length file < length file → IsUtf8 (first_line file) → answer ≡ positioned (header_of (first_line file)) (line_length file + 1)
  pub no_text : line_length file < length file → (IsUtf8 (first_line file) → ⊥) → (n : ℕ) × IsValidUpTo (first_line file) n × (answer ≡ Err (BadText n))

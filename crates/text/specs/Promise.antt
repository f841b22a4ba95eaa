-- What the text forms promise. Each is a statement, and a function's contract asks for its proof.
use Rattle.std.specs.Prelude.{◌≡◌, ℕ, ◌+◌, ◌-◌, ◌^◌, ◌<◌, ◌≤◌, true, false, List, [], ◌∷◌, ◌++◌, length, replicate, Some, None, Ok, Err, codes, ◌≢◌}
use Rattle.frame.specs.declared.rejection.Rejection.TheVariants.{BadText}
use Rattle.std.specs.List.{AllByRecursion}
use Rattle.frame.specs.declared.header.VideoHeader.{VideoHeader}
use Rattle.text.specs.Line.{Words, end, word, words}
use Rattle.text.specs.Text.{PacketFields, header_of, header_text, packet_of, packet_text, row_of, row_text, sure_text, unsure_text, worst_of, worst_text}

-- WHAT IS WRITTEN READS BACK AS THE SAME VALUES, since the words of a line are those that it was written from,
-- and the digits of a number mean that number.
pub record ReadsBack : Type 0 where
  pub header : (h : VideoHeader) → h.across < 2 ^ 64 → h.down < 2 ^ 64 → h.step < 2 ^ 64 → header_of (header_text h) ≡ Ok h
  pub row : (pixels : List ℕ) → AllByRecursion (λ p. p < 256) pixels → row_of (length pixels) (row_text pixels) ≡ Ok pixels
  pub packet : (p : PacketFields) → p.number ≤ 2 ^ 62 → AllByRecursion (λ b. b < 256) p.bytes → packet_of (packet_text p) ≡ Ok p
  pub worst : (distance : ℕ) → distance < 256 → worst_of (worst_text distance) ≡ Ok distance

-- A LINE IS ITS WORDS, EACH AT ITS OFFSET, AND SPACES BETWEEN THEM, since every byte is a space or belongs to a word.
-- the line from this offset on
abbrev pub laid_out : (offset : ℕ) → Words → List ℕ
laid_out offset (end n) = replicate (n - offset) 32
laid_out offset (word n bytes ws) = replicate (n - offset) 32 ++ (bytes ++ laid_out (n + length bytes) ws)

-- one byte or more, and no space
pub record Plain (bytes : List ℕ) : Type 0 where
  pub some : 0 < length bytes
  pub no_space : AllByRecursion (λ c. c ≢ 32) bytes

-- each word begins at the least offset or after it, and a space or more stands before the next
abbrev pub Separate : (least : ℕ) → Words → Type 0
Separate least (end n) = least ≤ n + 1
Separate least (word n bytes ws) = (least ≤ n) × Plain bytes × Separate (n + length bytes + 1) ws

pub record CutIntoWords : Type 0 where
  pub same : (line : List ℕ) → laid_out 0 (words line) ≡ line
  pub separate : (line : List ℕ) → Separate 0 (words line)

-- WORKED EXAMPLES
pub record Examples : Type 0 where
  pub header : header_of (codes "size 2 1 step 4") ≡ Ok (record { across = 2; down = 1; step = 4 })
  pub row : row_of 4 (codes " 10 20  30 40") ≡ Ok (10 ∷ (20 ∷ (30 ∷ (40 ∷ []))))
  pub key_packet : packet_of (codes "0 key 128 64") ≡ Ok (record { number = 0; key = true; bytes = 128 ∷ (64 ∷ []) })
  pub packet : packet_of (codes "1 128 64") ≡ Ok (record { number = 1; key = false; bytes = 128 ∷ (64 ∷ []) })
  pub too_large : row_of 2 (codes "10 256") ≡ Err (BadText 3)
  pub no_number : row_of 2 (codes "10 -1") ≡ Err (BadText 3)
  pub too_few : row_of 3 (codes "10 20") ≡ Err (BadText 5)
  pub too_many : row_of 1 (codes "10 20") ≡ Err (BadText 3)
  pub late_key : packet_of (codes "1 128 key") ≡ Err (BadText 6)
  pub sequence_number : packet_of (codes "4611686018427387905 128") ≡ Err (BadText 0)
  pub worst : worst_text 2 ≡ codes "worst 2"
  pub sure : sure_text 3 ≡ codes "sure 3"
  pub unsure : unsure_text (Some 3) ≡ codes "unsure, 3 shown"
  pub none_shown : unsure_text None ≡ codes "unsure, none shown"

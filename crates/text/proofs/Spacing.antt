-- Numbers are written one after another, each with a space before it.
use Rattle.std.proofs.Common.{◌≡◌, ℕ, ◌+◌, ◌<◌, ◌≤◌, Bool, true, false, List, [], ◌∷◌, ◌++◌, map, length, get_or, drop, codes, decimal, sym, ap, ◌∙◌, append_assoc, append-nil}
use Rattle.std.proofs.lemmas.List.{drop_all, drop_more, nil_from_length}
use Rattle.text.specs.Text.{packet_text, row_text, spaced}

-- what is still to be written
abbrev pub to_write : List ℕ → ℕ → List ℕ
to_write numbers i = spaced (map decimal (drop i numbers))

module _ (line next all : List ℕ) (numbers : List ℕ) (i : ℕ) (writes : line ++ to_write numbers i ≡ all) where
  pub write_more : i < length numbers → next ≡ line ++ 32 ∷ decimal (get_or numbers i 0) → next ++ to_write numbers (i + 1) ≡ all
  write_more inside e =
      ap (λ t. t ++ to_write numbers (i + 1)) e
      ∙ append_assoc line (32 ∷ decimal (get_or numbers i 0)) (to_write numbers (i + 1))
      ∙ ap (λ ns. line ++ spaced (map decimal ns)) (sym (drop_more numbers i 0 inside))
      ∙ writes

  pub write_done : length numbers ≤ i → line ≡ all
  write_done h = sym (append-nil line) ∙ ap (λ ns. line ++ spaced (map decimal ns)) (sym (drop_all i numbers h)) ∙ writes

pub row_none : (row line : List ℕ) → length row ≡ 0 → line ≡ [] → line ≡ row_text row
row_none row line h e = e ∙ ap row_text (sym (nil_from_length row h))

-- a packet's line, from its start and the bytes after it
module _ (number : ℕ) (key : Bool) (bytes : List ℕ) (front start line : List ℕ) (is_number : front ≡ decimal number) (adds : line ≡ start ++ spaced (map decimal bytes)) where
  pub packet_key : (mid : List ℕ) → key ≡ true → mid ≡ front ++ codes " key" → start ≡ mid → line ≡ packet_text (record { number = number; key = key; bytes = bytes })
  packet_key mid k d e = rw (adds, e, d, is_number, k) (append_assoc (decimal number) (codes " key") (spaced (map decimal bytes)))

  pub packet_plain : key ≡ false → start ≡ front → line ≡ packet_text (record { number = number; key = key; bytes = bytes })
  packet_plain k e = rw (adds, e, is_number, k)

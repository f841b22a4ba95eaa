-- A line's words are what the library's split gives. A header's tags are read one by one, each where it stands.
use Rattle.std.proofs.Common.{◌≡◌, ℕ, ◌+◌, ◌<◌, ◌≤◌, Bool, true, false, cond, not, eqb, ltb, List, [], ◌∷◌, length, get_or, take, drop, Some, None, Ok, Err, codes, unwrap_or, Result, sym, refl, ap, ◌∙◌, one-add, arith}
use Rattle.pictures.specs.Bytes.{cut, not_space, put_before}
use Rattle.pictures.specs.Faults.{fault_at, required, then}
use Rattle.pictures.specs.Y4m.{first_word, header_from, header_of, header_words, no_tags, with_tag, with_tags}
use Rattle.pictures.specs.declared.error.Fault.{Fault}
use Rattle.pictures.specs.declared.error.Fault.TheVariants.{BadMagic}
use Rattle.pictures.specs.declared.error.PictureError.{PictureError}
use Rattle.pictures.specs.declared.forms.Y4mHeader.{Y4mHeader}
use Rattle.pictures.specs.declared.y4m_tags.Tags.{Tags}
use Rattle.std.proofs.lemmas.Bool.{ltb-false}
use Rattle.std.proofs.lemmas.List.{drop_all, drop_more}
use Rattle.std.proofs.lemmas.List.Sums.{prefix_len-le-length}
use Rattle.std.specs.List.{onto_first, position, prefix_len, slice_split}
use Rattle.std.specs.Str.{bytes_eq}

abbrev pub is_space : ℕ → Bool
is_space c = eqb c 32

-- CUT AS THE LIBRARY SPLITS, which never gives no word
abbrev pub split : List ℕ → List (List ℕ)
split line = slice_split is_space line

put_onto : (c : ℕ) (x : ℕ) (ws : List (List ℕ)) → put_before c (onto_first x ws) ≡ onto_first c (onto_first x ws)
put_onto c x [] = refl
put_onto c x (w ∷ ws) = refl

put_by : (c x : ℕ) (ws : List (List ℕ)) (b : Bool) → put_before c (cond b ([] ∷ ws) (onto_first x ws)) ≡ onto_first c (cond b ([] ∷ ws) (onto_first x ws))
put_by c x ws true = refl
put_by c x ws false = put_onto c x ws

put_split : (c : ℕ) (cs : List ℕ) → put_before c (split cs) ≡ onto_first c (split cs)
put_split c [] = refl
put_split c (x ∷ xs) = put_by c x (split xs) (is_space x)

cut_by : (c : ℕ) (cs : List ℕ) (b : Bool) → cut cs ≡ split cs → cond b ([] ∷ cut cs) (put_before c (cut cs)) ≡ cond b ([] ∷ split cs) (onto_first c (split cs))
cut_by c cs true h = ap (λ ws. [] ∷ ws) h
cut_by c cs false h = ap (put_before c) h ∙ put_split c cs

pub cut_is_split : (cs : List ℕ) → cut cs ≡ split cs
unfolding cut
cut_is_split [] = refl
cut_is_split (c ∷ cs) = cut_by c cs (is_space c) (cut_is_split cs)

-- THE FIRST WORD ends at the first space
first_onto : (c : ℕ) (ws : List (List ℕ)) → first_word (onto_first c ws) ≡ c ∷ first_word ws
first_onto c [] = refl
first_onto c (w ∷ ws) = refl

first_by : (c : ℕ) (cs : List ℕ) (b : Bool) → first_word (split cs) ≡ take (prefix_len not_space cs) cs →
    first_word (cond b ([] ∷ split cs) (onto_first c (split cs))) ≡ take (cond (not b) (1 + prefix_len not_space cs) 0) (c ∷ cs)
first_by c cs true h = refl
first_by c cs false h = first_onto c (split cs) ∙ ap (λ w. c ∷ w) h ∙ rw one-add refl

first_split : (cs : List ℕ) → first_word (split cs) ≡ take (prefix_len not_space cs) cs
first_split [] = refl
first_split (c ∷ cs) = first_by c cs (is_space c) (first_split cs)

found_by : (n m : ℕ) (b : Bool) → ltb n m ≡ b → n ≤ m → unwrap_or (cond b (Some n) None) m ≡ n
found_by n m true e h = refl
found_by n m false e h = omega (arith, ltb-false n m e)

found_or_end : (line : List ℕ) → unwrap_or (position is_space line) (length line) ≡ prefix_len not_space line
found_or_end line = found_by _ _ _ refl (prefix_len-le-length not_space line)

pub first_is : (line : List ℕ) → take (unwrap_or (position is_space line) (length line)) line ≡ first_word (cut line)
first_is line = ap (λ n. take n line) (found_or_end line) ∙ sym (ap first_word (cut_is_split line) ∙ first_split line)

-- ALL WORDS, a byte after each, are as long as the line and a byte
abbrev pub spread : List (List ℕ) → ℕ
spread [] = 0
spread (w ∷ ws) = length w + 1 + spread ws

spread_onto : (c : ℕ) (ws : List (List ℕ)) → 0 < spread ws → spread (onto_first c ws) ≡ spread ws + 1
spread_onto c [] h = absurd (omega (arith, h))
spread_onto c (w ∷ ws) h = omega arith

spread_by : (c : ℕ) (cs : List ℕ) (b : Bool) → spread (split cs) ≡ length cs + 1 → spread (cond b ([] ∷ split cs) (onto_first c (split cs))) ≡ length (c ∷ cs) + 1
spread_by c cs true h = omega arith
spread_by c cs false h = omega (arith, spread_onto c (split cs) (omega arith))

pub spread_split : (cs : List ℕ) → spread (split cs) ≡ length cs + 1
spread_split [] = refl
spread_split (c ∷ cs) = spread_by c cs (is_space c) (spread_split cs)

-- THE TAGS are the words after the first
abbrev pub tag_words : List ℕ → List (List ℕ)
tag_words line = drop 1 (split line)

abbrev pub finished : (line : List ℕ) → Result Tags PictureError → Result Y4mHeader PictureError
finished line r = then r λ tags. header_from tags (length line)

words_by : (end : ℕ) (ws : List (List ℕ)) → 0 < spread ws →
    header_words end ws
    ≡ cond (bytes_eq (first_word ws) (codes "YUV4MPEG2")) (then (with_tags no_tags (length (first_word ws) + 1) (drop 1 ws)) λ tags. header_from tags end) (fault_at BadMagic 0)
words_by end [] h = absurd (omega (arith, h))
words_by end (w ∷ ws) h = refl

pub header_is : (line : List ℕ) (magic : List ℕ) → magic ≡ first_word (cut line) →
    header_of line ≡ cond (bytes_eq magic (codes "YUV4MPEG2")) (finished line (with_tags no_tags (length magic + 1) (tag_words line))) (fault_at BadMagic 0)
header_is line magic e =
    ap (header_words (length line)) (cut_is_split line)
    ∙ words_by (length line) (split line) (omega (arith, spread_split line))
    ∙ ap (λ w. cond (bytes_eq w (codes "YUV4MPEG2")) (finished line (with_tags no_tags (length w + 1) (tag_words line))) (fault_at BadMagic 0)) (sym (e ∙ ap first_word (cut_is_split line)))

pub was_required : (test : Bool) (fault : Fault) (position : ℕ) {x : Unit {0}} → Ok x ≡ required test fault position → test ≡ true
was_required true fault position e = refl
was_required false fault position e = cc

first_spread : (ws : List (List ℕ)) → 0 < spread ws → length (first_word ws) + 1 + spread (drop 1 ws) ≡ spread ws
first_spread [] h = absurd (omega (arith, h))
first_spread (w ∷ ws) h = refl

pub tags_spread : (line : List ℕ) (magic : List ℕ) → magic ≡ first_word (cut line) → length magic + 1 + spread (tag_words line) ≡ length line + 1
tags_spread line magic e =
    ap (λ w. length w + 1 + spread (tag_words line)) (e ∙ ap first_word (cut_is_split line))
    ∙ first_spread (split line) (omega (arith, spread_split line))
    ∙ spread_split line

-- A TURN, whose word is the one at k
module _ (ws : List (List ℕ)) (k : ℕ) (w : List ℕ) (turn : (k < length ws) × (w ≡ get_or ws k w)) where
  pub turn_words : drop k ws ≡ w ∷ drop (k + 1) ws
  turn_words = drop_more ws k w turn.0 ∙ ap (λ v. v ∷ drop (k + 1) ws) (sym turn.1)

  pub turn_spread : spread (drop k ws) ≡ length w + 1 + spread (drop (k + 1) ws)
  turn_spread = ap spread turn_words

  turn_step : (tags : Tags) (n : ℕ) → with_tags tags n (drop k ws) ≡ then (with_tag tags w n) λ more. with_tags more (n + length w + 1) (drop (k + 1) ws)
  unfolding with_tags
  turn_step tags n = ap (with_tags tags n) turn_words

  pub turn_more : (tags more : Tags) (n : ℕ) → Ok more ≡ with_tag tags w n → with_tags tags n (drop k ws) ≡ with_tags more (n + (length w + 1)) (drop (k + 1) ws)
  turn_more tags more n e =
      turn_step tags n
      ∙ ap (λ r. then r λ m. with_tags m (n + length w + 1) (drop (k + 1) ws)) (sym e)
      ∙ ap (λ m. with_tags more m (drop (k + 1) ws)) (omega arith)

  pub turn_fault : (tags : Tags) (x : PictureError) (n : ℕ) → Err x ≡ with_tag tags w n → with_tags tags n (drop k ws) ≡ Err x
  turn_fault tags x n e = turn_step tags n ∙ ap (λ r. then r λ m. with_tags m (n + length w + 1) (drop (k + 1) ws)) (sym e)

pub no_more : (ws : List (List ℕ)) (k : ℕ) (tags : Tags) (n : ℕ) → length ws ≤ k → with_tags tags n (drop k ws) ≡ Ok tags
unfolding with_tags
no_more ws k tags n past = ap (with_tags tags n) (drop_all k ws past)

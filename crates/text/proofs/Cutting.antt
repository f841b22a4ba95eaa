-- A line is cut into words: spaces before a word change nothing, and any other byte belongs to the word.
use Rattle.std.proofs.Common.{◌≡◌, ℕ, zero, suc, ◌+◌, ◌-◌, ◌<◌, ◌≤◌, ◌⊎◌, Bool, not, eqb, List, [], ◌∷◌, ◌++◌, length, take, drop, get_or, sym, refl, ap, ◌∙◌, subst, add-one, add-zero, append_assoc, append-nil, inl, inr, arith}
use Rattle.std.proofs.ByRecursion.{All-from_get_or}
use Rattle.std.proofs.Math.Seq.{drop-cons}
use Rattle.std.proofs.lemmas.Bool.{cases_lt, eq-eqb, eqb-false, eqb-true, ne_eqb, not-false, not-true}
use Rattle.std.proofs.lemmas.List.Folds.{length-prefix_len}
use Rattle.std.proofs.lemmas.List.Sums.{prefix_len-le-length, prefix_len_passes, prefix_len_stops}
use Rattle.std.proofs.lemmas.List.{drop_all, get_or-take, length-append, length-drop, nil_from_length, take-append-drop}
use Rattle.std.specs.List.{AllByRecursion, prefix_len}
use Rattle.text.specs.Line.{Words, end, word, closed, words_from, bytes_of, position, rest}

pub at_space : (bytes : List ℕ) (n c : ℕ) (cs : List ℕ) → c ≡ 32 → words_from bytes n (c ∷ cs) ≡ closed bytes n (words_from [] (n + 1) cs)
unfolding words_from
at_space bytes n c cs e = rw (eq-eqb c 32 e, add-one)

pub at_byte : (bytes : List ℕ) (n c : ℕ) (cs : List ℕ) → (c ≡ 32 → ⊥) → words_from bytes n (c ∷ cs) ≡ words_from (bytes ++ c ∷ []) (n + 1) cs
unfolding words_from
at_byte bytes n c cs d = rw (ne_eqb c 32 d, add-one)

pub at_end : (bytes : List ℕ) (n : ℕ) → words_from bytes n [] ≡ closed bytes n (end n)
unfolding words_from
at_end bytes n = refl

abbrev pub Spaceless : List ℕ → Type 0
Spaceless w = AllByRecursion (λ c. c ≡ 32 → ⊥) w

-- bytes that are no spaces are of the word that is being read
pub grown : (bytes : List ℕ) (n : ℕ) (w t : List ℕ) → Spaceless w → words_from bytes n (w ++ t) ≡ words_from (bytes ++ w) (n + length w) t
grown bytes n [] t h = rw (append-nil, add-zero)
grown bytes n (c ∷ cs) t h =
    let longer : n + 1 + length cs ≡ n + suc (length cs) = omega arith in
    at_byte bytes n c (cs ++ t) h.0
    ∙ grown (bytes ++ c ∷ []) (n + 1) cs t h.1
    ∙ (λ i. words_from (append_assoc bytes (c ∷ []) cs i) (longer i) t)

pub closed_word : (w : List ℕ) (n : ℕ) (ws : Words) → 0 < length w → closed w (n + length w) ws ≡ word n w ws
closed_word [] n ws h = absurd (omega arith)
closed_word (c ∷ cs) n ws h = let start : n + suc (length cs) - suc (length cs) ≡ n = omega arith in ap (λ m. word m (c ∷ cs) ws) start

-- the words of the last bytes of a line of that length
abbrev pub last_words : (length : ℕ) → List ℕ → Words
last_words n bytes = words_from [] (n - length bytes) bytes

-- SPACES BEFORE A WORD are passed
past_space : (n : ℕ) (r : List ℕ) → suc (length r) ≤ n → last_words n (32 ∷ r) ≡ last_words n r
past_space n r h =
    let e : n - suc (length r) + 1 ≡ n - length r = omega arith in
    at_space [] (n - suc (length r)) 32 r refl ∙ ap (λ m. words_from [] m r) e

abbrev is_space : ℕ → Bool
is_space c = eqb c 32

abbrev is_letter : ℕ → Bool
is_letter c = not (eqb c 32)

passed : (n : ℕ) (s : List ℕ) (j : ℕ) → length s ≤ n → j ≤ prefix_len is_space s → last_words n s ≡ last_words n (drop j s)
passed n s zero l h = refl
passed n s (suc j) l h =
    let inside : j < length s = omega (arith, h, prefix_len-le-length is_space s) in
    let space : get_or s j 0 ≡ 32 = eqb-true _ 32 (prefix_len_passes is_space s j 0 (omega (arith, h))) in
    let more : drop j s ≡ 32 ∷ drop (suc j) s = drop-cons s j 0 inside ∙ ap (λ c. c ∷ drop (suc j) s) space in
    passed n s j l (omega (arith, h)) ∙ ap (last_words n) more ∙ past_space n (drop (suc j) s) (omega (arith, inside, l, length-drop (suc j) s))

-- what is left of bytes after the spaces before them
abbrev unspaced : List ℕ → List ℕ
unspaced s = drop (prefix_len is_space s) s

no_space : (s t : List ℕ) → unspaced s ≡ 32 ∷ t → ⊥
no_space s t e =
    let k = prefix_len is_space s in
    let inside : k < length s = omega (arith, ap length e, length-drop k s) in
    let first : get_or s k 0 ≡ 32 = ap (λ l. get_or l 0 0) (sym (drop-cons s k 0 inside) ∙ e) in
    eqb-false _ 32 (prefix_len_stops is_space s 0 inside) first

-- A WORD ENDS at the first space, or with the bytes
abbrev Stopped : (count : ℕ) → List ℕ → Type 0
Stopped k line = Spaceless (take k line) × ((drop k line ≡ []) ⊎ (u : List ℕ) × (drop k line ≡ 32 ∷ u))

stopped : (line : List ℕ) → Stopped (prefix_len is_letter line) line
stopped line =
    let k = prefix_len is_letter line in
    let letters : Spaceless (take k line) =
    All-from_get_or (λ c. c ≡ 32 → ⊥) (take k line) 0
    (λ i h.
    let before : i < k = omega (arith, h, length-prefix_len is_letter line) in
    subst (λ c. c ≡ 32 → ⊥) (sym (get_or-take k line i 0 before)) (eqb-false _ 32 (not-true _ (prefix_len_passes is_letter line i 0 before)))) in (
      letters,
      elim (cases_lt k (length line)) [
        | inl inside ↦ inr (drop (suc k) line, drop-cons line k 0 inside ∙ ap (λ c. c ∷ drop (suc k) line) (eqb-true _ 32 (not-false _ (prefix_len_stops is_letter line 0 inside))))
        | inr over ↦ inl (drop_all k line over)
      ],
    )

-- THE NEXT WORD
pub record Next (n : ℕ) (line text after : List ℕ) (ws : Words) : Type 0 where
  pub position : n - length line ≡ position ws
  pub bytes : text ≡ bytes_of ws
  pub rest : last_words n after ≡ rest ws

module _ (n : ℕ) (line : List ℕ) (within : length line ≤ n) where
  to_space : (w t : List ℕ) → line ≡ w ++ 32 ∷ t → 0 < length w → Spaceless w → Next n line w t (last_words n line)
  to_space w t e some plain =
      let start : ℕ = n - length line in
      let l : length line ≡ length w + suc (length t) = ap length e ∙ length-append w (32 ∷ t) in
      let after : start + length w + 1 ≡ n - length t = omega arith in
      let is_word : last_words n line ≡ word start w (last_words n t) =
      ap (words_from [] start) e ∙ grown [] start w (32 ∷ t) plain ∙ at_space w (start + length w) 32 t refl ∙ closed_word w start _ some
      ∙ ap (λ m. word start w (words_from [] m t)) after in
      record { position = sym (ap position is_word); bytes = sym (ap bytes_of is_word); rest = sym (ap rest is_word) }

  to_end : Spaceless line → Next n line line [] (last_words n line)
  to_end plain = go (cases_lt 0 (length line))
    where
      at_last : last_words n line ≡ closed line n (end n)
      at_last =
          let start : ℕ = n - length line in
          let stop : start + length line ≡ n = omega arith in
          ap (words_from [] start) (sym (append-nil line)) ∙ grown [] start line [] plain ∙ at_end line (start + length line)
          ∙ ap (λ m. closed line m (end m)) stop

      none_left : last_words n [] ≡ end n
      none_left = let all : n - 0 ≡ n = omega arith in ap (λ m. words_from [] m []) all ∙ at_end [] n

      go : (0 < length line) ⊎ (length line ≤ 0) → Next n line line [] (last_words n line)
      go (inl some) =
          let stop : n - length line + length line ≡ n = omega arith in
          let is_word : last_words n line ≡ word (n - length line) line (end n) =
          at_last ∙ ap (λ m. closed line m (end n)) (sym stop) ∙ closed_word line (n - length line) (end n) some in
          record { position = sym (ap position is_word); bytes = sym (ap bytes_of is_word); rest = none_left ∙ sym (ap rest is_word) }
      go (inr none) =
          let empty : line ≡ [] = nil_from_length line (omega arith) in
          let is_end : last_words n line ≡ end n = at_last ∙ ap (λ bs. closed bs n (end n)) empty in
          let start : n - length line ≡ n = omega arith in
          record { position = start ∙ sym (ap position is_end); bytes = empty ∙ sym (ap bytes_of is_end); rest = none_left ∙ sym (ap rest is_end) }

-- AFTER THE SPACES STANDS THE NEXT WORD, up to the first space: it is what is taken, and nothing is at the line's end.
cut_next : (n : ℕ) (s line : List ℕ) → line ≡ unspaced s → length line ≤ n → (k : ℕ) → Stopped k line → Next n line (take k line) (drop k line) (last_words n line)
cut_next n s line is within k cut =
    let parts : take k line ++ drop k line ≡ line = take-append-drop k line in
    elim cut.1 [
      | inl none ↦
          let whole : take k line ≡ line = sym (append-nil (take k line)) ∙ ap (λ t. take k line ++ t) (sym none) ∙ parts in
          rw (whole, none) (to_end n line within (subst Spaceless whole cut.0))
      | inr (u, space) ↦
          let is_cut : line ≡ take k line ++ 32 ∷ u = sym parts ∙ ap (λ t. take k line ++ t) space in
          elim (cases_lt 0 (length (take k line))) [
            | inl some ↦
                let long : length line ≡ length (take k line) + suc (length u) = ap length is_cut ∙ length-append (take k line) (32 ∷ u) in
                let after : last_words n (drop k line) ≡ last_words n u = ap (last_words n) space ∙ past_space n u (omega arith) in
                let found = to_space n line within (take k line) u is_cut some cut.0 in
                record { position = found.position; bytes = found.bytes; rest = after ∙ found.rest }
            | inr none ↦
                let empty : take k line ≡ [] = nil_from_length (take k line) (omega arith) in
                absurd (no_space s u (sym is ∙ is_cut ∙ ap (λ w. w ++ 32 ∷ u) empty))
          ]
    ]

pub next : (n : ℕ) (s line text after : List ℕ) (spaces letters : ℕ) → length s ≤ n → spaces ≡ prefix_len is_space s → line ≡ drop spaces s
    → letters ≡ prefix_len is_letter line → text ≡ take letters line → after ≡ drop letters line → Next n line text after (last_words n s)
next n s line text after spaces letters l a is b t u =
    let left : line ≡ unspaced s = is ∙ ap (λ k. drop k s) a in
    let shorter : length line ≤ n = omega (arith, ap length left, length-drop (prefix_len is_space s) s) in
    let same : last_words n line ≡ last_words n s = ap (last_words n) left ∙ sym (passed n s (prefix_len is_space s) l (omega arith)) in
    rw (t, u, b) (subst (Next n line _ _) same (cut_next n s line left shorter _ (stopped line)))

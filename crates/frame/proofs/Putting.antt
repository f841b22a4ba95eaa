-- A block's four rows of pixels are written one after the other; what stands at another column or row stays.
use Rattle.std.proofs.Common.{◌≡◌, ℕ, ◌+◌, ◌*◌, ◌/◌, ◌%◌, ◌<◌, ◌≤◌, Bool, true, false, cond, ◌&&◌, eqb, ltb, ◌⊎◌, List, length, get_or, sym, refl, ap, ◌∙◌, inl, inr, arith, rules}
use borrow.Rule.Slice.PartMut.{put_mid}
use Rattle.std.proofs.lemmas.List.{places}
use Rattle.std.proofs.lemmas.Nat.{mul-add-lt, mul-le}
use Rattle.std.proofs.lemmas.Bool.{and_right, cases_eq, cases_lt, eq-eqb, ne_eqb, lt-ltb, le-ltb}
use Rattle.block.specs.Transform.{pixel_in}
use Rattle.frame.specs.Decoding.{BlockPut}

-- the first n of the four rows are written
abbrev pub PutUpto : (width column : ℕ) → (pixels old : List ℕ) → (n : ℕ) → (new : List ℕ) → Type 0
PutUpto width column pixels old n new =
    (x y : ℕ) → x < width → y < 4 →
    get_or new (y * width + x) 0 ≡ cond (eqb (x / 4) column && ltb y n) (pixel_in pixels (x % 4) y) (get_or old (y * width + x) 0)

pub put_none : (w column : ℕ) (pixels old : List ℕ) → PutUpto w column pixels old 0 old
put_none w column pixels old x y xl yl = rw (and_right (eqb (x / 4) column) (ltb y 0) (le-ltb y 0 (omega arith))) refl

-- what is written over n places from a on, and what is not
stays : (a n k : ℕ) (xs ys : List ℕ) → length ys ≡ n → a + n ≤ length xs → (k < a) ⊎ (a + n ≤ k) → get_or (put_mid a n xs ys) k 0 ≡ get_or xs k 0
stays a n k xs ys long within (inl l) = search (rules, places)
stays a n k xs ys long within (inr l) = search (rules, places)

hit : (a n j : ℕ) (xs ys : List ℕ) → length ys ≡ n → a + n ≤ length xs → j < n → get_or (put_mid a n xs ys) (a + j) 0 ≡ get_or ys j 0
hit a n j xs ys long within l = search (rules, places)

module _ (w column row n : ℕ) (pixels old new four : List ℕ) (fits : 4 * column + 4 ≤ w) (n_is : n ≡ 4) (long : length four ≡ n)
    (within : row * w + 4 * column + n ≤ length new) where
  pub put_more : ((j : ℕ) → j < 4 → get_or four j 0 ≡ pixel_in pixels j row) →
      PutUpto w column pixels old row new → PutUpto w column pixels old (row + 1) (put_mid (row * w + 4 * column) n new four)
  put_more is before x y xl yl = go (cases_lt y row) (cases_lt row y) (cases_eq (x / 4) column)
    where
      go : (y < row) ⊎ (row ≤ y) → (row < y) ⊎ (y ≤ row) → (x / 4 ≡ column) ⊎ (x / 4 ≡ column → ⊥) →
          get_or (put_mid (row * w + 4 * column) n new four) (y * w + x) 0
          ≡ cond (eqb (x / 4) column && ltb y (row + 1)) (pixel_in pixels (x % 4) y) (get_or old (y * w + x) 0)
      go (inl lt) o c =
          stays _ n (y * w + x) new four long within (inl (omega (arith, mul-add-lt y w x row lt xl))) ∙ before x y xl yl
          ∙ rw (lt-ltb y row lt, lt-ltb y (row + 1) (omega arith)) refl
      go (inr ge) (inl gt) c =
          stays _ n (y * w + x) new four long within (inr (omega (arith, mul-le (row + 1) w y w (omega arith) (omega arith)))) ∙ before x y xl yl
          ∙ rw (le-ltb y row (omega arith), le-ltb y (row + 1) (omega arith)) refl
      go (inr ge) (inr le) (inr ne) =
          let e : y ≡ row = omega arith in
          let apart : (y * w + x < row * w + 4 * column) ⊎ (row * w + 4 * column + n ≤ y * w + x)
          = rw e (elim (cases_lt (x / 4) column) [ inl l ↦ inl (omega arith) | inr l ↦ inr (omega (arith, ne)) ]) in
          stays _ n (y * w + x) new four long within apart ∙ before x y xl yl ∙ rw (ne_eqb (x / 4) column ne) refl
      go (inr ge) (inr le) (inl f) =
          let e : y ≡ row = omega arith in
          let k : y * w + x ≡ row * w + 4 * column + x % 4 = rw e (omega arith) in
          rw (k, eq-eqb (x / 4) column f, lt-ltb y (row + 1) (omega arith))
          (hit _ n (x % 4) new four long within (omega arith) ∙ is (x % 4) (omega arith) ∙ ap (pixel_in pixels (x % 4)) (sym e))

  -- what lies past the four rows
  pub stays_after : row < 4 → (k : ℕ) → 4 * w ≤ k → get_or (put_mid (row * w + 4 * column) n new four) k 0 ≡ get_or new k 0
  stays_after rl k l = stays _ n k new four long within (inr (omega (arith, mul-add-lt row w (4 * column + 3) 4 rl (omega arith))))

pub put_all : (w column : ℕ) (pixels old new : List ℕ) → PutUpto w column pixels old 4 new → BlockPut w column pixels old new
put_all w column pixels old new h x y xl yl = h x y xl yl ∙ go (eqb (x / 4) column)
  where
    go : (a : Bool) → cond (a && ltb y 4) (pixel_in pixels (x % 4) y) (get_or old (y * w + x) 0) ≡ cond a (pixel_in pixels (x % 4) y) (get_or old (y * w + x) 0)
    go true = rw (lt-ltb y 4 yl) refl
    go false = refl

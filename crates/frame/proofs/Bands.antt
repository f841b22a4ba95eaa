-- Rows of blocks, each lent on as a part of the picture and written back.
use Rattle.std.proofs.Common.{◌≡◌, ℕ, ◌+◌, ◌-◌, ◌*◌, ◌<◌, ◌≤◌, ◌⊎◌, List, ◌++◌, length, get_or, take, sym, ap, ◌∙◌, inl, inr, arith}
use borrow.Rule.Slice.PartMut.{put_mid, post_of}
use Rattle.std.proofs.lemmas.List.{get_or_append_left, get_or-append_right, get_or-take, length-take-le}
use Rattle.std.proofs.lemmas.Nat.{mul-add-lt}
use Rattle.std.proofs.lemmas.Bool.{cases_lt}
use Rattle.block.specs.Picture.{Picture}
use Rattle.frame.specs.Frame.{Format}
use Rattle.frame.specs.Decoding.{Drawn, RowDrawn}

getD_putMid_before : {X : Type 0} (a k : ℕ) (xs ys : List X) (i : ℕ) (d : X) → i < a → a ≤ length xs → get_or (put_mid a k xs ys) i d ≡ get_or xs i d
getD_putMid_before a k xs ys i d lt le =
    get_or_append_left (take a xs) (ys ++ post_of a k xs) d i (omega (arith, length-take-le a xs le)) ∙ get_or-take a xs i d lt

getD_putMid_in : {X : Type 0} (a k : ℕ) (xs ys : List X) (i j : ℕ) (d : X) → i ≡ a + j → j < length ys → a ≤ length xs → get_or (put_mid a k xs ys) i d ≡ get_or ys j d
getD_putMid_in a k xs ys i j d e lt le =
    get_or-append_right (take a xs) (ys ++ post_of a k xs) a i d (length-take-le a xs le) (omega arith)
    ∙ ap (λ n. get_or (ys ++ post_of a k xs) n d) (let z : i - a ≡ j = omega arith in z)
    ∙ get_or_append_left ys (post_of a k xs) d j lt

-- one more row of blocks
pub drawn_more : (f : Format) (picture : Picture) (row k a : ℕ) (pixels band : List ℕ) → Drawn (4 * f.across) (4 * row) picture pixels →
    RowDrawn f picture row f.across band → a ≡ row * (16 * f.across) → length band ≡ 16 * f.across → a ≤ length pixels →
    Drawn (4 * f.across) (4 * (row + 1)) picture (put_mid a k pixels band)
drawn_more f picture row k a pixels band before here e lb le x y xl yl = go (cases_lt y (4 * row))
  where
    within : (j : ℕ) → y ≡ 4 * row + j → get_or (put_mid a k pixels band) (y * (4 * f.across) + x) 0 ≡ picture x y
    within j y_is =
        let jl : j < 4 = omega arith in
        getD_putMid_in a k pixels band (y * (4 * f.across) + x) (j * (4 * f.across) + x) 0 (rw y_is (omega arith)) (omega (arith, mul-add-lt j (4 * f.across) x 4 jl xl)) le
        ∙ here x j xl xl jl ∙ ap (picture x) (sym y_is)

    go : (y < 4 * row) ⊎ (4 * row ≤ y) → get_or (put_mid a k pixels band) (y * (4 * f.across) + x) 0 ≡ picture x y
    go (inl lt) = getD_putMid_before a k pixels band (y * (4 * f.across) + x) 0 (omega (arith, mul-add-lt y (4 * f.across) x (4 * row) lt xl)) le ∙ before x y xl lt
    go (inr ge) = within (y - 4 * row) (omega arith)

use Rattle.std.proofs.Common.{◌≡◌, ℕ, ◌+◌, ◌-◌, ◌*◌, ◌<◌, ◌≤◌, length, get_or, refl, ap, ◌∙◌, arith, length-take, length-drop}
use Rattle.std.proofs.lemmas.List.Edits.{get_or-between}
use Rattle.std.proofs.lemmas.Nat.{mul-add-lt}
use Rattle.block.specs.Transform.{pixel_in}
use Rattle.frame.proofs.Putting.{put_none, put_more, put_all, stays_after}
use Rattle.frame.proofs.drawing.put_pixels.Goals as goal

pub loop-row-init : goal.loop-row-init
loop-row-init c = (put_none c.args.width c.args.column c.args.pixels c.args.band.now, λ k h. refl)

pub loop-row-preserved : goal.loop-row-preserved
loop-row-preserved c =
    let row : ℕ = c.loop-row.row in
    let a : ℕ = row * c.args.width + 4 * c.args.column in
    let below = mul-add-lt row c.args.width (4 * c.args.column + 3) 4 c.loop-row-test.true (omega arith) in
    let within : a + (a + 4 - a) ≤ length c.loop-row.band = omega (arith, below) in
    let long : length c.copy_from_slice.new.self ≡ a + 4 - a = c.copy_from_slice.ensures.len ∙ simp (length-take, length-drop) (omega (arith, within)) in
    let four : (j : ℕ) → j < 4 → get_or c.copy_from_slice.new.self j 0 ≡ pixel_in c.args.pixels j row
    = λ j l. ap (λ xs. get_or xs j 0) c.copy_from_slice.ensures.after ∙ get_or-between c.args.pixels (4 * row) (4 * row + 4) j 0 (omega arith) in (
      put_more c.args.width c.args.column row _ c.args.pixels c.args.band.now c.loop-row.band c.copy_from_slice.new.self c.requires.column (omega arith) long within
          four c.loop-row.invariant.0,
      λ k h. stays_after c.args.width c.args.column row _ c.args.pixels c.args.band.now c.loop-row.band c.copy_from_slice.new.self c.requires.column (omega arith) long within
          c.loop-row-test.true k h ∙ c.loop-row.invariant.1 k h,
    )

pub returns : goal.returns
returns c =
    let e : c.loop-row.row ≡ 4 = omega arith in
    record {
      drawn = put_all c.args.width c.args.column c.args.pixels c.args.band.now c.loop-row.band (rw e at c.loop-row.invariant.0);
      after = c.loop-row.invariant.1;
    }

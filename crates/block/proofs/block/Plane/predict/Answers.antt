use Rattle.std.proofs.Common.{◌∙◌, w32, SFits, rules}
use Rattle.std.proofs.lemmas.Int.{to_z-of_z}
use Rattle.block.specs.Picture.{picture_of}
use Rattle.block.proofs.Motion.{flat_pixels, moved_pixel, refused_across, refused_down, stays_inside}
use Rattle.block.proofs.block.Plane.predict.Goals as goal

pub returns-in_err-column-in-Motion : goal.returns-in_err-column-in-Motion
returns-in_err-column-in-Motion c =
    let fits : SFits w32 c.in-Motion.field-0.dx = search rules in
    rw c.from_residual.ensures
    (refused_across _ c.args.left c.args.top _ _ c.in-Motion.is (simp to_z-of_z at c.in_err-column-in-Motion.ensures))

pub returns-in_err-row-in-Motion : goal.returns-in_err-row-in-Motion
returns-in_err-row-in-Motion c =
    let fits : SFits w32 c.in-Motion.field-0.dy = search rules in
    rw c.from_residual-in_err-row-in-Motion.ensures
    (refused_down _ c.args.left c.args.top _ _ c.in-Motion.is (simp to_z-of_z at c.in_err-row-in-Motion.ensures))

pub returns-in-Flat : goal.returns-in-Flat
returns-in-Flat c =
    flat_pixels c.args.self.size c.args.left c.args.top _ c.in-Flat.value (picture_of c.args.self)
    c.in-Flat.is

pub returns-in_ok-row-in-Motion : goal.returns-in_ok-row-in-Motion
returns-in_ok-row-in-Motion c =
    let x_fits : SFits w32 c.in-Motion.field-0.dx = search rules in
    let y_fits : SFits w32 c.in-Motion.field-0.dy = search rules in
    let across = simp to_z-of_z at c.in_ok-column-in-Motion.ensures in
    let down = simp to_z-of_z at c.in_ok-row-in-Motion.ensures in (
      stays_inside c.args.self.size c.args.left c.args.top _ _ c.in-Motion.is across.0 down.0,
      λ x y h k. c.block_at.ensures x y h k ∙
          moved_pixel c.args.self.size c.args.left c.args.top _ _ c.in-Motion.is
          (picture_of c.args.self) _ _ x y across.1 down.1,
    )

use Rattle.std.proofs.Common.{◌≡◌, true, sym, ◌∙◌, w8, w16, Fits, subst, rules}
use Rattle.block.specs.Picture.{picture_of}
use Rattle.block.specs.Prediction.{predictable, predicted}
use Rattle.block.specs.Syntax.{SayablePrediction}
use Rattle.block.specs.declared.block.Prediction.TheVariants.{Motion}
use Rattle.encoder.proofs.Vectors.{vector_sayable}
use Rattle.encoder.proofs.input.BlockInput.moved.Goals as goal

pub returns : goal.returns
returns c =
    let p = c.in_ok-pixels.ensures in
    let block = c.args.self in
    let size = block.reference.size in
    let within : predictable size block.left block.top (Motion c.args.vector) ≡ true
    = (λ i. predictable size (sym c.from-left.ensures i) (sym c.from-top.ensures i) (Motion c.args.vector)) ∙ p.0 in
    let w : Fits w16 size.width = search rules in
    let h : Fits w16 size.height = search rules in
    let l : Fits w8 block.left = search rules in
    let t : Fits w8 block.top = search rules in
    record {
      sayable = subst (λ key. SayablePrediction key (Motion c.args.vector)) (sym c.requires) (vector_sayable size block.left block.top c.args.vector w.fits h.fits l.fits t.fits within);
      within = within;
      pixels = λ x y xl yl. p.1 x y xl yl
          ∙ (λ i. predicted (picture_of block.reference) (c.from-left.ensures i) (c.from-top.ensures i) (Motion c.args.vector) x y);
    }

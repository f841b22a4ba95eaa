use Rattle.std.proofs.Common.{◌≡◌, ◌+◌, ◌*◌, sym, ap, ◌∙◌, arith}
use Rattle.std.proofs.lemmas.Result.{err_from_is_err_and}
use Rattle.block.specs.Picture.{picture_in}
use Rattle.block.specs.Prediction.{predictable, predicted}
use Rattle.block.specs.Transform.{reconstructed}
use Rattle.block.specs.declared.block.PlaneSize.{PlaneSize}
use Rattle.frame.specs.Frame.{block_at}
use Rattle.frame.specs.Show.{format_of}
use Rattle.frame.specs.declared.show_error.ShowError.TheVariants.{Invalid}
use Rattle.frame.proofs.Decoded.{block_is, past_is}
use Rattle.frame.proofs.Placed.{place_below, predictable_is, drawn}
use Rattle.frame.proofs.decoding.BlockDecoder.decode_block.Goals as goal

pub returns-in_err-prediction : goal.returns-in_err-prediction
returns-in_err-prediction c r e =
    let d = c.args.self.now in
    let b = c.read_block-block.result in
    let is = block_is d.key r _ (c.args.row * d.format.across + c.args.column) e b c.read_block-block.ensures.read.is in
    let p = err_from_is_err_and c.from_residual.result c.from_residual.ensures.1 in
    let invalid : c.in_err-prediction.field-0.0 ≡ Invalid = grind arith in
    let predicted = predictable_is (format_of d.format) (block_at d.key r) c.args.row c.args.column c.requires.column b is
    ∙ ap (λ (s : PlaneSize). predictable s (4 * c.args.column) (4 * c.args.row) b.prediction) (sym c.plane_size.ensures)
    ∙ (rw c.in_err-prediction.ensures.ok_part at c.predict.ensures) in
    let below = place_below (format_of d.format) c.args.row c.args.column c.requires.row c.requires.column in
    rw (p.1, p.2) (invalid, (c.args.row * d.format.across + c.args.column, below, predicted))

pub returns : goal.returns
returns c r e =
    let d = c.args.self.now in
    let f = format_of d.format in
    let b = c.read_block-block.result in
    let h = c.read_block-block.ensures.read in
    let p = rw c.in_ok-prediction.ensures.ok_part at c.predict.ensures in
    let is = block_is d.key r _ (c.args.row * d.format.across + c.args.column) e b h.is in
    let put = c.put_block.ensures.drawn (omega arith) (omega arith) (omega arith) in (
      past_is d.key r _ (c.args.row * d.format.across + c.args.column) e _ h.next,
      predictable_is f (block_at d.key r) c.args.row c.args.column c.requires.column b is
          ∙ ap (λ (s : PlaneSize). predictable s (4 * c.args.column) (4 * c.args.row) b.prediction) (sym c.plane_size.ensures) ∙ p.0,
      drawn f (block_at d.key r) c.args.row c.args.column c.requires.column b is (picture_in (4 * f.across) d.reference.now)
          c.reconstruct-pixels.result c.args.band.now c.put_block.new.band
          (λ x y xl yl. c.reconstruct-pixels.ensures x y xl yl
          ∙ ap (λ q. reconstructed f.step b.levels q x y)
          (p.1 x y xl yl
          ∙ ap (λ (s : PlaneSize). predicted (picture_in s.width d.reference.now) (4 * c.args.column) (4 * c.args.row) b.prediction x y) c.plane_size.ensures))
          put,
    )

use Rattle.std.proofs.Common.{◌*◌, subst, arith}
use Rattle.frame.specs.Decoding.{BlockPut}
use Rattle.encoder.proofs.Proceeding.{encoded}
use Rattle.encoder.proofs.encoding.Row.encode_block.Goals as goal

pub returns : goal.returns
returns c p =
    encoded c.args.self.now.frame c.args.self.now.row c.args.column c.args.self.now.within c.requires.column c.args.self.now.frame.format.few
    c.args.writer.now c.write_block.new.writer p c.block_at-input.result c.block_at-input.ensures c.finished-choice.result c.finished-choice.ensures
    c.write_block.ensures c.args.band.now c.put_block.new.band
    (subst (λ n. BlockPut (4 * n) c.args.column c.finished-choice.result.pixels c.args.band.now c.put_block.new.band) c.across.ensures
    (c.put_block.ensures.drawn (omega (arith, c.across.ensures)) (omega (arith, c.across.ensures)) (omega (arith, c.across.ensures))))

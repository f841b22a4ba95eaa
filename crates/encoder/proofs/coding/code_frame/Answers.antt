use Rattle.std.proofs.Common.{◌≡◌, ◌*◌, length, None, sym, rules}
use Rattle.frame.specs.Frame.{block_count}
use Rattle.frame.specs.Show.{format_of}
use Rattle.encoder.specs.Code.{input_rejection}
use Rattle.encoder.proofs.Finishing.{delivered, too_short}
use Rattle.encoder.proofs.Pictures.{pictures_fit}
use Rattle.encoder.proofs.coding.code_frame.Goals as goal

pub copy_from_slice-requires-2 : goal.copy_from_slice-requires-2
copy_from_slice-requires-2 c =
    let input = c.args.input in
    let none : input_rejection input c.args.output.now ≡ None = sym c.in_ok-check_pictures.ensures in
    let out = pictures_fit (16 * block_count (format_of input.format)) input.source.now input.reference.now c.args.output.now none in
    search rules

pub returns-then-length-buffer : goal.returns-then-length-buffer
returns-then-length-buffer c =
    let long : length c.encode.new.output ≡ 16 * block_count (format_of c.args.input.format) = search rules in
    too_short c.args.input c.encode.new.writer c.encode.new.output long
    (c.encode.ensures c.new-writer.ensures.start c.new-writer.ensures.bits) c.finish-bytes.result.now c.finish-bytes.ensures
    c.args.buffer.now c.args.output.now (sym c.in_ok-check_pictures.ensures) c.if-length-buffer.true

pub returns : goal.returns
returns c =
    let long : length c.encode.new.output ≡ 16 * block_count (format_of c.args.input.format) = search rules in
    delivered c.args.input c.encode.new.writer c.encode.new.output long
    (c.encode.ensures c.new-writer.ensures.start c.new-writer.ensures.bits) c.finish-bytes.result.now c.finish-bytes.ensures
    c.args.buffer.now c.args.output.now (sym c.in_ok-check_pictures.ensures) c.if-length-buffer.false
    c.copy_from_slice.new.self c.copy_from_slice-2.new.self c.copy_from_slice.ensures.after c.copy_from_slice-2.ensures.after

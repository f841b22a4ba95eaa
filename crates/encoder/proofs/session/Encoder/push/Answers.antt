use Rattle.std.proofs.Common.{arith}
use Rattle.std.proofs.lemmas.Result.{err_from_is_err_and}
use Rattle.encoder.proofs.Sessions.{number_rejected, push_done, push_rejected}
use Rattle.encoder.proofs.session.Encoder.push.Goals as goal

pub returns-in_err-check_number : goal.returns-in_err-check_number
returns-in_err-check_number c =
    let p = err_from_is_err_and c.from_residual.result c.from_residual.ensures.1 in
    rw (p.1, p.2)
    (number_rejected c.args.self.now c.args.source.now c.args.key c.args.buffer.now c.in_err-check_number.field-0.0 c.in_err-check_number.ensures)

pub returns-in_err-length : goal.returns-in_err-length
returns-in_err-length c =
    let p = err_from_is_err_and c.from_residual-in_err-length.result c.from_residual-in_err-length.ensures.1 in
    rw (p.1, p.2)
    (push_rejected c.args.self.now c.args.source.now c.args.key c.next_is_key.result c.args.buffer.now c.code_frame.new.buffer
    _ c.code_frame.new.output c.pixel_count-pixels.result
    c.next_is_key.ensures c.in_ok-check_number.ensures c.pixel_count-pixels.ensures (omega arith) (omega arith)
    c.in_err-length.field-0.0 c.in_err-length.ensures)

pub returns : goal.returns
returns c =
    push_done c.args.self.now c.args.source.now c.args.key c.next_is_key.result c.args.buffer.now c.code_frame.new.buffer
    _ c.code_frame.new.output c.pixel_count-pixels.result
    c.next_is_key.ensures c.in_ok-check_number.ensures c.pixel_count-pixels.ensures (omega arith) (omega arith)
    c.copy_from_slice.new.self c.copy_from_slice.ensures.after c.in_ok-length.length c.in_ok-length.ensures

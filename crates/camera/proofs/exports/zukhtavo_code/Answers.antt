use Rattle.std.proofs.Common.{arith}
use Rattle.camera.specs.Camera.{format_in}
use Rattle.camera.proofs.Ranges.{code_fits}
use Rattle.camera.proofs.exports.zukhtavo_code.Goals as goal

pub pack-requires : goal.pack-requires
pack-requires c = rw c.answer_coded.ensures
    (code_fits (format_in c.args.across c.args.down c.args.step) _ c.args.source.now c.args.reference.now c.args.buffer.now c.args.output.now
    c.code-coded.result c.code-coded.new.buffer c.code-coded.new.output (omega arith) c.code-coded.ensures)

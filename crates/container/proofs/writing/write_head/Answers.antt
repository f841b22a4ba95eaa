use Rattle.std.proofs.Common.{◌++◌, ap, ◌∙◌, arith}
use Rattle.container.specs.Container.{tag, varint}
use Rattle.container.proofs.Groups.{tag_below, tag_is, varint_ten}
use Rattle.container.proofs.writing.write_head.Goals as goal

pub put_varint-middle-requires : goal.put_varint-middle-requires
put_varint-middle-requires c =
    rw (tag_is c.args.number c.from.result c.args.key c.from.ensures)
    (omega (arith, varint_ten (tag c.args.number c.args.key) (tag_below c.args.number c.args.key c.requires)))

pub put_varint-size-requires : goal.put_varint-size-requires
put_varint-size-requires c =
    omega (
      arith,
      rw (tag_is c.args.number c.from.result c.args.key c.from.ensures) at c.put_varint-middle.ensures.end,
      varint_ten (tag c.args.number c.args.key) (tag_below c.args.number c.args.key c.requires),
      varint_ten c.args.frame_length (omega arith),
    )

pub returns : goal.returns
returns c =
    c.put_varint-size.ensures.bytes
    ∙ ap (λ bs. bs ++ varint c.args.frame_length) (c.put_varint-middle.ensures.bytes ∙ ap varint (tag_is c.args.number c.from.result c.args.key c.from.ensures))

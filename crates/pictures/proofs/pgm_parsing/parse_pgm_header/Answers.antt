use Rattle.std.proofs.Common.{Ok, ap, sym, ◌∙◌, rules, tests}
use Rattle.pictures.proofs.PlainPgm.{header_read}
use Rattle.pictures.proofs.pgm_parsing.parse_pgm_header.Goals as goal

pub returns : goal.returns
returns c =
    ap Ok c.new.ensures
    ∙ sym
    (header_read c.args.bytes.now _ _ _ (search (rules, tests)) (sym c.in_ok-width.ensures.value) (sym c.in_ok-height.ensures.value) (sym c.in_ok-max.ensures.value) (search (rules, tests)) (search (rules, tests)))

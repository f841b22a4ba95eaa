use Rattle.std.proofs.Common.{◌*◌, arith, rules, tests}
use Rattle.pictures.specs.Picture.{strip_pixel}
use Rattle.std.proofs.lemmas.Iterator.Adapters.{items_from_extend}
use Rattle.std.proofs.lemmas.Iterator.{YieldsList-from_map, YieldsList-from_range}
use Rattle.pictures.proofs.strip.push_strip.Goals as goal

pub returns : goal.returns
returns c =
    let indices = YieldsList-from_range 0 (4 * c.from.result) (4 * c.args.width) c.map.ensures.source (omega (arith, c.from.ensures)) in
    let appended =
    items_from_extend c.extend.result c.extend.ensures.ran
    (YieldsList-from_map _ (strip_pixel c.args.mark c.args.width) indices c.map.ensures.closure (λ x r q k. search (rules, tests)))
    in
    search rules

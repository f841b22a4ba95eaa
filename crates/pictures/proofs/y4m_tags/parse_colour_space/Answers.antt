use Rattle.std.proofs.Common.{codes, sym, ap, arith, rules}
use Rattle.std.proofs.lemmas.Slice.Eq.{text_from_reads}
use Rattle.pictures.specs.Y4m.{colour_space_of}
use Rattle.pictures.proofs.y4m_tags.parse_colour_space.Goals as goal

pub returns-in-52-4 : goal.returns-in-52-4
returns-in-52-4 c = ap colour_space_of (sym (text_from_reads c.args.name.now (codes "420mpeg2") (omega arith) (search rules)))

pub returns-in-52-5 : goal.returns-in-52-5
returns-in-52-5 c = ap colour_space_of (sym (text_from_reads c.args.name.now (codes "420jpeg") (omega arith) (search rules)))

pub returns-in-52-6 : goal.returns-in-52-6
returns-in-52-6 c = ap colour_space_of (sym (text_from_reads c.args.name.now (codes "420paldv") (omega arith) (search rules)))

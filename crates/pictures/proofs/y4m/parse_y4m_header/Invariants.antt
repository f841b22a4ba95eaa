use Rattle.std.proofs.Common.{◌≡◌, ◌+◌, length, drop}
use Rattle.pictures.specs.Y4m.{header_of, with_tags}
use Rattle.std.proofs.lemmas.Iterator.{YieldsList}
use Rattle.pictures.proofs.Cutting.{finished, spread, tag_words}
use Rattle.pictures.proofs.y4m.parse_y4m_header.Given as goal

abbrev pub invariant-loop-tag : goal.invariant-loop-tag
invariant-loop-tag l = record {
  can_next : (goal.iterator-loop-tag).can_next l.tag-iterator;
  words : YieldsList (goal.iterator-loop-tag).next_gives (λ x. x.now) l.initial.tag-iterator (tag_words l.line);
  finite : (goal.iterator-loop-tag).is_finite l.tag-iterator;
  read : header_of l.line ≡ finished l.line (with_tags l.tags l.position (drop (length l.yielded) (tag_words l.line)));
  within : l.position + spread (drop (length l.yielded) (tag_words l.line)) ≡ length l.line + 1;
}

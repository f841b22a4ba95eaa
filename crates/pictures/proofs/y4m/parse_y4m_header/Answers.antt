use Rattle.std.proofs.Common.{◌+◌, length, sym, ap, ◌∙◌, arith, of_calls, rules, tests}
use Rattle.pictures.proofs.Cutting.{finished, header_is, is_space, no_more, tag_words, tags_spread, turn_fault, turn_more, turn_spread, was_required}
use Rattle.pictures.specs.Y4m.{with_tags}
use Rattle.std.proofs.lemmas.Bool.{cond-true}
use Rattle.std.proofs.lemmas.Iterator.Adapters.{YieldsList-from_skip}
use Rattle.std.proofs.lemmas.Iterator.Consumers.{YieldsList-at, YieldsList-end, YieldsList-turn}
use Rattle.std.proofs.lemmas.Iterator.Splits.{YieldsList-from_slice_split}
use Rattle.std.proofs.lemmas.List.{length_push}
use Rattle.std.proofs.lemmas.Result.{err_from_is_err_and}
use Rattle.std.specs.Str.{bytes_eq}
use Rattle.pictures.proofs.y4m.parse_y4m_header.Goals as goal

pub loop-tag-init : goal.loop-tag-init
loop-tag-init c =
    let line = c.args.line.now in
    record {
      can_next = search of_calls;
      words =
          YieldsList-at c.into_iter-tag-iterator.ensures.into_iter_gives
          (YieldsList-from_skip 1
          (YieldsList-at c.skip-tag-items.ensures.source (YieldsList-from_slice_split _ is_space line c.split.ensures.rest c.split.ensures.done c.split.ensures.closure (λ x r q k. search (rules, tests))))
          c.skip-tag-items.ensures.count);
      finite = search of_calls;
      read =
          header_is line _ c.first_word-magic.ensures
          ∙ cond-true _ _ _ (ap (bytes_eq c.first_word-magic.result.now) (sym c.as_slice.ensures) ∙ sym c.eq.ensures ∙ was_required _ _ _ c.in_ok-require.ensures)
          ∙ ap (λ tags. finished line (with_tags tags (length c.first_word-magic.result.now + 1) (tag_words line))) (sym c.none-tags.ensures);
      within = tags_spread line _ c.first_word-magic.ensures;
    }

pub returns-in_err-tags : goal.returns-in_err-tags
returns-in_err-tags c =
    let line = c.args.line.now in
    let turn = YieldsList-turn c.loop-tag.invariant.words c.loop-tag.yielded _ c.loop-tag.yielded_by _ _ c.in-Some.tag c.in-Some.is c.next.ensures.steps in
    let p = err_from_is_err_and c.from_residual-in_err-tags.result c.from_residual-in_err-tags.ensures.1 in
    rw (p.1, p.2) (sym (c.loop-tag.invariant.read ∙ ap (finished line) (turn_fault (tag_words line) _ _ turn _ _ _ c.in_err-tags.ensures)))

pub overflow_add-position-in-loop-tag-2 : goal.overflow_add-position-in-loop-tag-2
overflow_add-position-in-loop-tag-2 c =
    let turn = YieldsList-turn c.loop-tag.invariant.words c.loop-tag.yielded _ c.loop-tag.yielded_by _ _ c.in-Some.tag c.in-Some.is c.next.ensures.steps in
    omega (arith, turn_spread (tag_words c.args.line.now) _ _ turn, c.loop-tag.invariant.within)

pub loop-tag-preserved : goal.loop-tag-preserved
loop-tag-preserved c =
    let line = c.args.line.now in
    let turn = YieldsList-turn c.loop-tag.invariant.words c.loop-tag.yielded _ c.loop-tag.yielded_by _ _ c.in-Some.tag c.in-Some.is c.next.ensures.steps in
    let more = length_push c.loop-tag.yielded c.in-Some.tag in
    record {
      can_next = search rules;
      words = c.loop-tag.invariant.words;
      finite = search rules;
      read = rw more (c.loop-tag.invariant.read ∙ ap (finished line) (turn_more (tag_words line) _ _ turn _ _ _ c.in_ok-tags.ensures));
      within = rw more (omega (arith, turn_spread (tag_words line) _ _ turn, c.loop-tag.invariant.within));
    }

pub returns : goal.returns
returns c =
    let line = c.args.line.now in
    let end = YieldsList-end c.loop-tag.invariant.words c.loop-tag.yielded _ c.loop-tag.yielded_by _ _ c.in-None.is c.next.ensures.steps in
    c.header.ensures ∙ sym (c.loop-tag.invariant.read ∙ ap (finished line) (no_more (tag_words line) _ _ _ (omega (arith, end.1))))

use Rattle.std.proofs.Common.{sym, ◌∙◌, arith, rules}
use Rattle.container.proofs.Packets.{tag_fault, number_fault, length_fault, then_framed, frame_cut, frame_whole}
use Rattle.std.proofs.lemmas.List.{take_rest, length-drop}
use Rattle.std.proofs.lemmas.Result.{err_from_is_err_and}
use Rattle.container.proofs.reading.locate.Goals as goal

pub returns-in_err-tag : goal.returns-in_err-tag
returns-in_err-tag c =
    let p = err_from_is_err_and c.from_residual.result c.from_residual.ensures.1 in
    rw (p.1, p.2) (record { value = sym (tag_fault c.args.bytes.now (sym c.in_err-tag.ensures.value)); within = tt })

pub returns-then-number-gt-MAX_SEQUENCE_NUMBER : goal.returns-then-number-gt-MAX_SEQUENCE_NUMBER
returns-then-number-gt-MAX_SEQUENCE_NUMBER c = record {
  value = sym (number_fault c.args.bytes.now _ (sym c.in_ok-tag.ensures.value) (omega arith));
  within = tt;
}

pub returns-in_err-length : goal.returns-in_err-length
returns-in_err-length c =
    let p = err_from_is_err_and c.from_residual-in_err-length.result c.from_residual-in_err-length.ensures.1 in
    rw (p.1, p.2) (record {
      value = sym (length_fault c.args.bytes.now _ (sym c.in_ok-tag.ensures.value) (omega arith) (rw take_rest at (sym c.in_err-length.ensures.value)));
      within = tt;
    })

pub returns-then-length-bytes : goal.returns-then-length-bytes
returns-then-length-bytes c = record {
  value = sym (then_framed c.args.bytes.now _ (sym c.in_ok-tag.ensures.value) (omega arith) _ (rw take_rest at (sym c.in_ok-length.ensures.value)) ∙ frame_cut _ _ _ _ (omega arith));
  within = tt;
}

pub returns : goal.returns
returns c = record {
  value = sym (then_framed c.args.bytes.now _ (sym c.in_ok-tag.ensures.value) (omega arith) _ (rw take_rest at (sym c.in_ok-length.ensures.value)) ∙ frame_whole _ _ _ _ (omega arith));
  within = record { begins = omega (arith, c.in_ok-tag.ensures.within); sized = search rules; ends = omega (arith, simp (take_rest, length-drop) at c.in_ok-length.ensures.within.1, c.in_ok-tag.ensures.within) };
}

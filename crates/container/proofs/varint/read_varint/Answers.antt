use Rattle.std.proofs.Common.{sym, ◌∙◌, add-one, arith}
use Rattle.std.proofs.lemmas.Bool.Decides.{nat_tests}
use Rattle.std.proofs.lemmas.List.{at_drop_all}
use Rattle.std.proofs.lemmas.Result.{err_from_is_err_and}
use Rattle.container.specs.Container.{varint_from}
use Rattle.container.proofs.Varints.{from_byte, last_some, last_zero, more, no_room, same_fault, too_large}
use Rattle.container.proofs.varint.read_varint.Goals as goal

pub returns-in_err-value : goal.returns-in_err-value
returns-in_err-value c =
    let large = rw c.in_err-value.ensures.ok_part at c.with_group.ensures in
    let fault = same_fault _ _ (rw c.in_err-value.ensures.ok_part at c.in_err-value.ensures.value) in
    let p = err_from_is_err_and c.from_residual.result c.from_residual.ensures.1 in
    rw (p.1, p.2, fault) (record { value = from_byte c.args.bytes.now _ _ _ (omega arith) c.loop-index.invariant (too_large _ _ _ _ _ (omega arith)); within = tt })

pub returns-then-place-gt1 : goal.returns-then-place-gt1
returns-then-place-gt1 c =
    let total = rw c.in_ok-value.ensures.ok_part at c.with_group.ensures in
    record {
      value = from_byte c.args.bytes.now _ _ _ (omega arith) c.loop-index.invariant (last_zero _ _ _ _ _ total.0 (omega arith) (omega arith));
      within = tt;
    }

pub returns-then-byte-lt128 : goal.returns-then-byte-lt128
returns-then-byte-lt128 c =
    let total = rw c.in_ok-value.ensures.ok_part at c.with_group.ensures in
    record {
      value =
          rw (add-one, total.1)
          (from_byte c.args.bytes.now _ _ _ (omega arith) c.loop-index.invariant (last_some _ _ _ _ _ total.0 (omega arith) (grind (arith, nat_tests, c.else-byte-eq0.either))));
      within = (omega arith, omega arith);
    }

pub returns-in_err-place : goal.returns-in_err-place
returns-in_err-place c =
    let total = rw c.in_ok-value.ensures.ok_part at c.with_group.ensures in
    let large = rw c.in_err-place.ensures.ok_part at c.checked_mul.ensures in
    let fault = same_fault _ _ (rw c.in_err-place.ensures.ok_part at c.in_err-place.ensures.value) in
    let p = err_from_is_err_and c.from_residual-in_err-place.result c.from_residual-in_err-place.ensures.1 in
    rw (p.1, p.2, fault) (record { value = from_byte c.args.bytes.now _ _ _ (omega arith) c.loop-index.invariant (no_room _ _ _ _ _ total.0 (omega arith) (omega (arith, large))); within = tt })

pub loop-index-preserved : goal.loop-index-preserved
loop-index-preserved c =
    let total = rw c.in_ok-value.ensures.ok_part at c.with_group.ensures in
    let next = rw c.in_ok-place.ensures.ok_part at c.checked_mul.ensures in
    rw (total.1, next.1, add-one) (from_byte c.args.bytes.now _ _ _ (omega arith) c.loop-index.invariant (more _ _ _ _ _ total.0 (omega arith) (omega (arith, next))))

pub returns : goal.returns
unfolding varint_from
returns c = record { value = sym (at_drop_all (varint_from c.loop-index.place c.loop-index.value c.loop-index.index) c.args.bytes.now c.loop-index.index (omega arith)) ∙ c.loop-index.invariant; within = tt }

use Rattle.std.proofs.Common.{◌≡◌, ◌&&◌, leb, length, get_or, sym, ◌∙◌, subst, arith, rules}
use Rattle.std.proofs.lemmas.List.{length_push}
use Rattle.std.proofs.lemmas.Slice.Zip.{zip_end, zip_turn}
use Rattle.block.specs.Transform.{distance}
use Rattle.block.proofs.Apart.{CloseBelow, close_more}
use Rattle.block.proofs.closeness.is_close.Goals as goal

pub loop-x-preserved : goal.loop-x-preserved
loop-x-preserved c =
    let turn = zip_turn c.args.a c.args.b c.loop-x.yielded c.into_iter-x-iterator.result c.loop-x.x-iterator c.next.new.self c.next.result (search rules) (search rules) c.loop-x.yielded_by _ c.in-Some.is c.next.ensures.steps in
    let apart : c.distance.result ≡ distance (get_or c.args.a (length c.loop-x.yielded) 0) (get_or c.args.b (length c.loop-x.yielded) 0) = c.distance.ensures ∙ rw (turn.2 0, turn.3 0) in
    subst (λ n. CloseBelow c.half-half.result c.args.a c.args.b n (c.loop-x.close && leb c.distance.result c.half-half.result)) (sym (length_push c.loop-x.yielded _))
    (close_more c.half-half.result c.args.a c.args.b (length c.loop-x.yielded) c.loop-x.close c.distance.result apart c.loop-x.invariant)

pub returns : goal.returns
returns c =
    let long_a : length c.args.a ≡ 16 = search rules in
    let long_b : length c.args.b ≡ 16 = search rules in
    let end = zip_end c.args.a c.args.b c.loop-x.yielded c.into_iter-x-iterator.result c.loop-x.x-iterator c.next.new.self c.next.result (search rules) (search rules) c.loop-x.yielded_by c.in-None.is c.next.ensures.steps in
    let all : length c.loop-x.yielded ≡ 16 = omega (arith, end, long_a, long_b) in
    subst (λ half. CloseBelow half c.args.a c.args.b 16 c.loop-x.close) c.half-half.ensures
    (subst (λ n. CloseBelow c.half-half.result c.args.a c.args.b n c.loop-x.close) all c.loop-x.invariant)

use Rattle.std.proofs.Common.{◌-◌, length, vec_items}
use denote.Param.Always.{always_mut}
use Rattle.encode.proofs.reading.read_whole.Given as goal

abbrev pub invariant-loop-parsed : goal.invariant-loop-parsed
invariant-loop-parsed g l = always_mut g.F.FnMut l.initial.parse → always_mut g.F.FnMut l.parse

-- each turn reads something
abbrev pub decreases-loop-parsed : goal.decreases-loop-parsed
decreases-loop-parsed g l = 65536 - length (vec_items l.source.held)

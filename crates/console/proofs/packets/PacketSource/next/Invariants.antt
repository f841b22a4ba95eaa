use Rattle.std.proofs.Common.{◌≡◌, ◌-◌, ◌^◌}
use Rattle.console.specs.Packets.{pending_length}
use Rattle.console.proofs.packets.PacketSource.next.Given as goal

abbrev pub invariant-loop-head : goal.invariant-loop-head
invariant-loop-head l = l.self.left ≡ l.initial.self.left

-- what is pending grows each turn, since it was no whole packet
abbrev pub decreases-loop-head : goal.decreases-loop-head
decreases-loop-head l = 2 ^ 64 - pending_length l.self

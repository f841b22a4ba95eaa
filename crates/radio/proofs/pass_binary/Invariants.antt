use Rattle.radio.proofs.pass_binary.Given as goal

abbrev pub decreases-loop-packets : goal.decreases-loop-packets
decreases-loop-packets l = l.packets.left

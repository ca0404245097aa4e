use Rattle.std.proofs.Common.{◌≡◌, ◌++◌}
use Rattle.packet_chain.proofs.chain.PacketChain.copy.Given as goal

abbrev pub invariant-loop-packet : goal.invariant-loop-packet
invariant-loop-packet l =
    (goal.iterator-loop-packet).can_next l.packet-iterator × (goal.iterator-loop-packet).is_finite l.packet-iterator × (l.made ++ l.packet-iterator ≡ l.self)

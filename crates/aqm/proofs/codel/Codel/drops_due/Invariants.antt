use Rattle.aqm.proofs.Foreseen.{IsForeseen}
use Rattle.aqm.proofs.codel.Codel.drops_due.Given as goal

abbrev pub invariant-loop-packet : goal.invariant-loop-packet
invariant-loop-packet l =
    (goal.iterator-loop-packet).can_next l.packet-iterator × (goal.iterator-loop-packet).is_finite l.packet-iterator × IsForeseen l.self l.now l.dropped l.left l.due l.count l.packet-iterator

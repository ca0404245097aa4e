-- The packets behind are still to be appended.
use Rattle.std.proofs.Common.{string_bytes, ◌≡◌, ◌++◌, codes}
use Rattle.std.specs.List.{flat_map}
use Rattle.packet_chain.specs.Stamped.{Stamped}
use Rattle.trace_text.specs.Dump.{waiting_text}
use Rattle.trace_text.proofs.dump.links.write_further.Given as goal

abbrev pub invariant-loop-packet : goal.invariant-loop-packet
invariant-loop-packet l =
    (goal.iterator-loop-packet).can_next l.packet-iterator × (goal.iterator-loop-packet).is_finite l.packet-iterator
    × (string_bytes l.out ++ flat_map (λ (cell : Stamped). codes "," ++ waiting_text cell) l.packet-iterator ≡ string_bytes l.initial.out ++ flat_map (λ (cell : Stamped). codes "," ++ waiting_text cell) l.fn.cells)

-- The lines of the other nodes are still to be appended.
use Rattle.std.proofs.Common.{string_bytes, ◌≡◌, ◌++◌, drop}
use Rattle.std.specs.List.{flat_map, enumerate_from}
use Rattle.net_machine.specs.Nodes.{parts_of}
use Rattle.trace_text.specs.Chosen.{chosen_node}
use Rattle.trace_text.proofs.dump.nodes.write_nodes.Given as goal

abbrev pub invariant-loop-number : goal.invariant-loop-number
invariant-loop-number l =
    string_bytes l.out ++ flat_map (chosen_node l.flow) (enumerate_from l.number (parts_of (drop l.number l.nodes))) ≡ string_bytes l.initial.out ++ flat_map (chosen_node l.flow) (enumerate_from 0 (parts_of l.nodes))

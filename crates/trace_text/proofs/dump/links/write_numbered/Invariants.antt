-- The links of the nodes behind are still to be looked through.
use Rattle.std.proofs.Common.{string_bytes, ◌≡◌, ◌++◌, drop}
use Rattle.std.specs.List.{flat_map}
use Rattle.net_machine.specs.Nodes.{parts_of}
use Rattle.trace_text.specs.Chosen.{chosen_link}
use Rattle.trace_text.specs.Dump.{links_numbered}
use Rattle.trace_text.proofs.dump.links.write_numbered.Given as goal

abbrev pub invariant-loop-node : goal.invariant-loop-node
invariant-loop-node l =
    string_bytes l.out ++ flat_map (chosen_link l.flow) (links_numbered (parts_of (drop l.node-index l.nodes)) l.number) ≡ string_bytes l.initial.out ++ flat_map (chosen_link l.flow) (links_numbered (parts_of l.nodes) l.number)

-- The links of the numbers behind are still to be appended.
use Rattle.std.proofs.Common.{string_bytes, ◌≡◌, ◌++◌, ◌-◌}
use Rattle.std.specs.List.{flat_map, range_with_len}
use Rattle.net_machine.specs.Nodes.{parts_of}
use Rattle.trace_text.specs.Chosen.{chosen_link}
use Rattle.trace_text.specs.Dump.{links_numbered}
use Rattle.trace_text.proofs.dump.links.write_first.Given as goal

abbrev pub invariant-loop-number : goal.invariant-loop-number
invariant-loop-number l =
    string_bytes l.out ++ flat_map (chosen_link l.flow) (flat_map (links_numbered (parts_of l.nodes)) (range_with_len l.number (l.count - l.number)))
    ≡ string_bytes l.initial.out ++ flat_map (chosen_link l.flow) (flat_map (links_numbered (parts_of l.nodes)) (range_with_len 0 l.count))

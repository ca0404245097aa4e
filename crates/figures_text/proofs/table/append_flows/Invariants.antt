-- The lines of the other flows are still to be appended.
use Rattle.std.proofs.Common.{◌≡◌, ◌++◌, drop}
use Rattle.std.specs.List.{flat_map, enumerate_from}
use Rattle.figures_text.specs.Table.{flow_lines}
use Rattle.figures_text.proofs.table.append_flows.Given as goal

abbrev pub invariant-loop-number : goal.invariant-loop-number
invariant-loop-number l =
    l.text.items ++ flat_map (flow_lines l.column) (enumerate_from l.number (drop l.number l.flows)) ≡ l.initial.text.items ++ flat_map (flow_lines l.column) (enumerate_from 0 l.flows)

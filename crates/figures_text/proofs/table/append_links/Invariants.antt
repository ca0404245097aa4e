-- The lines of the other links are still to be appended.
use Rattle.std.proofs.Common.{◌≡◌, ◌++◌, drop}
use Rattle.std.specs.List.{flat_map, enumerate_from}
use Rattle.figures_text.specs.Table.{link_lines}
use Rattle.figures_text.proofs.table.append_links.Given as goal

abbrev pub invariant-loop-number : goal.invariant-loop-number
invariant-loop-number l =
    l.text.items ++ flat_map (link_lines l.column) (enumerate_from l.number (drop l.number l.links)) ≡ l.initial.text.items ++ flat_map (link_lines l.column) (enumerate_from 0 l.links)

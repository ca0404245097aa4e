-- The rows of the other links are still to be appended.
use Rattle.std.proofs.Common.{◌≡◌, ◌++◌, drop}
use Rattle.std.specs.List.{flat_map, enumerate_from}
use Rattle.figures_text.specs.SeriesText.{link_step_lines}
use Rattle.figures_text.proofs.series_text.append_links.Given as goal

abbrev pub invariant-loop-number : goal.invariant-loop-number
invariant-loop-number l =
    l.text.items ++ flat_map (link_step_lines l.begin l.column) (enumerate_from l.number (drop l.number l.links)) ≡ l.initial.text.items ++ flat_map (link_step_lines l.begin l.column) (enumerate_from 0 l.links)

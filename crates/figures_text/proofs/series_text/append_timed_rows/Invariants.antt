-- The lines of the rows behind are still to be appended.
use Rattle.std.proofs.Common.{◌≡◌, ◌++◌, drop}
use Rattle.figures_text.specs.SeriesText.{timed_rows}
use Rattle.figures_text.proofs.series_text.append_timed_rows.Given as goal

abbrev pub invariant-loop-row : goal.invariant-loop-row
invariant-loop-row l =
    l.text.items ++ timed_rows l.begin l.column l.subject (drop l.row-index l.rows) ≡ l.initial.text.items ++ timed_rows l.begin l.column l.subject l.rows

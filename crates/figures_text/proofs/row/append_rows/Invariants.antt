-- The lines of the rows behind are still to be appended.
use Rattle.std.proofs.Common.{◌≡◌, ◌++◌, drop}
use Rattle.figures_text.specs.Table.{rows_text}
use Rattle.figures_text.proofs.row.append_rows.Given as goal

abbrev pub invariant-loop-row : goal.invariant-loop-row
invariant-loop-row l =
    l.text.items ++ rows_text l.column l.subject (drop l.row-index l.rows) ≡ l.initial.text.items ++ rows_text l.column l.subject l.rows

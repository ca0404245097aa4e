-- the lines so far are appended, and the cursor stands behind them
use Rattle.std.proofs.Common.{◌≡◌, ◌+◌, ◌++◌, take, drop}
use Rattle.line_merge.specs.Sheaves.{StandsIn, merged}
use Rattle.window_text.specs.Text.{text_from}
use Rattle.window_text.proofs.formatter.append_lines.Given as goal

abbrev pub invariant-loop : goal.invariant-loop
invariant-loop l =
    StandsIn l.sheaf l.cursor
    × (l.cursor.at ≡ l.fn.cursor.at + l.counter)
    × (l.text ≡ l.fn.text ++ text_from (l.sheaf.first + l.fn.cursor.at) (take l.counter (drop l.fn.cursor.at (merged l.sheaf).lines)))

-- the lines so far are appended, and the cursor stands behind them
use Rattle.std.proofs.Common.{◌≡◌, ◌≤◌, ◌+◌, ◌-◌, ◌++◌, take, drop}
use Rattle.line_merge.specs.Sheaves.{StandsIn, merged}
use Rattle.window_text.specs.Text.{text_from}
use Rattle.window_text.proofs.formatter.append_before.Given as goal

abbrev pub invariant-loop : goal.invariant-loop
invariant-loop l = record {
  stands : StandsIn l.sheaf l.cursor;
  on : l.fn.cursor.at ≤ l.cursor.at;
  text : l.text ≡ l.fn.text ++ text_from (l.sheaf.first + l.fn.cursor.at) (take (l.cursor.at - l.fn.cursor.at) (drop l.fn.cursor.at (merged l.sheaf).lines));
}

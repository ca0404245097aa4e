use Rattle.std.proofs.Common.{◌≡◌, ◌≤◌, drop, min}
use Rattle.window_core.specs.GroupTables.{least_moment}
use Rattle.window_core.proofs.window.group_table.least.Given as goal

-- the least so far and that of the rest are together that of all
abbrev pub invariant-loop-next : goal.invariant-loop-next
invariant-loop-next l = record {
  together : min l.least (least_moment (drop l.next-index l.nexts)) ≡ least_moment l.nexts;
  few : l.least ≤ 18446744073709551615;
}

use Rattle.std.proofs.Common.{◌≡◌, length, take}
use Rattle.window_core.specs.GroupTables.{nexts_of}
use Rattle.window_core.specs.Window.{states_of}
use Rattle.window_core.proofs.window.group_table.read_nexts.Given as goal

-- those of the groups so far are read
abbrev pub invariant-loop-number : goal.invariant-loop-number
invariant-loop-number l = record {
  read : take l.number l.nexts ≡ nexts_of (states_of (take l.number l.group_states));
  size : length l.nexts ≡ length l.group_states;
}

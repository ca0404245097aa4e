use Rattle.std.proofs.Common.{◌≡◌, ◌≤◌, ◌<◌, ◌+◌, ◌*◌, ℕ, length, drop, get_or}
use Rattle.sim_time.specs.declared.limits.TheConstants.{MOST_EVENTS}
use Rattle.node_group.specs.Group.{GroupValue, IsGroup}
use Rattle.window_core.specs.Window.{states_of}
use Rattle.window_law.specs.Windows.{all_lines}
use Rattle.window_core.proofs.window.reading.reported.Given as goal

-- the lines so far and those of the rest are together all
abbrev pub invariant-loop-group_state : goal.invariant-loop-group_state
invariant-loop-group_state l = record {
  together : l.count + length (all_lines (states_of (drop l.group_state-index l.group_states))) ≡ length (all_lines (states_of l.group_states));
  few : l.count ≤ l.group_state-index * MOST_EVENTS;
  are_groups : (k : ℕ) (d : GroupValue) → k < l.group_state-index → IsGroup (get_or l.group_states k d);
}

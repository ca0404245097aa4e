use Rattle.std.proofs.Common.{◌≡◌, ◌≤◌, ◌+◌, ◌++◌, All, length, reverse, vec_capacity}
use Rattle.node_group.specs.Group.{IsOnRun}
use Rattle.window_core.proofs.window.lending.lend.Given as goal

-- what is left, and what went backwards
abbrev pub invariant-loop-group_state : goal.invariant-loop-group_state
invariant-loop-group_state l = record {
  together : l.group_states.items ++ reverse l.groups.items ≡ l.initial.group_states.items;
  on_run : All IsOnRun l.group_states.items;
  room : length l.group_states.items + length l.groups.items ≤ vec_capacity l.groups;
  kept : vec_capacity l.group_states ≡ vec_capacity l.initial.group_states;
}

abbrev pub decreases-loop-group_state : goal.decreases-loop-group_state
decreases-loop-group_state l = goal.left-loop-group_state l

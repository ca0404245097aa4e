use Rattle.std.proofs.Common.{◌≡◌, ◌≤◌, ◌+◌, ◌++◌, length, reverse, vec_capacity}
use Rattle.window_core.proofs.window.lending.regain.Given as goal

-- what is left, and what came backwards
abbrev pub invariant-loop-group : goal.invariant-loop-group
invariant-loop-group l = record {
  together : l.groups.items ++ reverse l.group_states.items ≡ l.initial.groups.items;
  room : length l.groups.items + length l.group_states.items ≤ vec_capacity l.group_states;
  kept : vec_capacity l.groups ≡ vec_capacity l.initial.groups;
}

abbrev pub decreases-loop-group : goal.decreases-loop-group
decreases-loop-group l = goal.left-loop-group l

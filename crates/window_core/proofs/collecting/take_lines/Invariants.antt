use Rattle.std.proofs.Common.{◌≡◌, [], length, map, take}
use Rattle.node_group.specs.Group.{GroupValue}
use Rattle.window_core.specs.Window.{no_value}
use Rattle.window_core.proofs.Each.{IsChangedTo}
use Rattle.window_core.proofs.collecting.take_lines.Given as goal

abbrev pub invariant-loop-at : goal.invariant-loop-at
invariant-loop-at l = record {
  lists : take l.at l.lists ≡ map (λ (g : GroupValue). g.lines) (take l.at l.initial.group_states);
  size : length l.lists ≡ length l.initial.group_states;
  group_states : IsChangedTo no_value (λ (g : GroupValue). record g { lines = []; position = l.position }) l.initial.group_states l.group_states l.at;
}

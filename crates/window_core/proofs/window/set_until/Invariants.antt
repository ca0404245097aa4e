use Rattle.node_group.specs.Group.{GroupValue}
use Rattle.window_core.specs.Window.{no_value}
use Rattle.window_core.proofs.Each.{IsChangedTo}
use Rattle.window_core.proofs.window.set_until.Given as goal

abbrev pub invariant-loop-group_state : goal.invariant-loop-group_state
invariant-loop-group_state l = IsChangedTo no_value (λ (g : GroupValue). record g { until = l.until }) l.initial.group_states l.group_states l.group_state-index

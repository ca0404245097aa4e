use Rattle.std.proofs.Common.{◌≡◌, drop}
use Rattle.window_law.specs.Lookahead.{lesser}
use Rattle.window_core.specs.Window.{states_of}
use Rattle.window_law.specs.Windows.{soonest}
use Rattle.window_core.proofs.window.reading.soonest.Given as goal

-- the least so far and that of the rest are together that of all
abbrev pub invariant-loop-group_state : goal.invariant-loop-group_state
invariant-loop-group_state l = lesser l.least (soonest (states_of (drop l.group_state-index l.group_states))) ≡ soonest (states_of l.group_states)

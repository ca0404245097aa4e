-- The stalls of the flows so far are behind the others.
use Rattle.std.proofs.Common.{◌≡◌, ◌++◌}
use Rattle.node_core.specs.TraceLine.{shown}
use Rattle.debugger.specs.Stalls.{stalls_below}
use Rattle.debugger.proofs.stalls.push_each_stall.Given as goal

abbrev pub invariant-loop-flow : goal.invariant-loop-flow
invariant-loop-flow l = l.out.items ≡ l.fn.out.items ++ stalls_below l.flow l.net.position l.before.value.state (shown l.line) l.net.state

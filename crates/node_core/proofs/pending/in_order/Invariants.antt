use Rattle.std.proofs.Common.{◌≡◌, ◌++◌, length}
use Rattle.std.specs.FinMap as map
use Rattle.node_core.proofs.pending.in_order.Given as goal

-- what has left so far, and what is left, is all
abbrev pub invariant-loop-key : goal.invariant-loop-key
invariant-loop-key l = l.all.items ++ map.entries l.rest.pending ≡ map.entries l.event_queue.pending

abbrev pub decreases-loop-key : goal.decreases-loop-key
decreases-loop-key l = length (map.entries l.rest.pending)

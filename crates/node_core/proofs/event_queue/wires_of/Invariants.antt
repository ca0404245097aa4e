use Rattle.std.proofs.Common.{◌≡◌, map, take}
use Rattle.node_core.specs.EventQueueState.{fresh_wire}
use Rattle.node_core.proofs.event_queue.wires_of.Given as goal

-- a wire for each link so far
abbrev pub invariant-loop-link : goal.invariant-loop-link
invariant-loop-link l = l.wires.items ≡ map (fresh_wire l.node) (take l.link-index l.links)

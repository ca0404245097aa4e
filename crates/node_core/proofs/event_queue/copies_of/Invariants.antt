use Rattle.std.proofs.Common.{◌≡◌, take}
use Rattle.node_core.proofs.event_queue.copies_of.Given as goal

-- a copy of each so far
abbrev pub invariant-loop-wire : goal.invariant-loop-wire
invariant-loop-wire l = l.copies.items ≡ take l.wire-index l.wires

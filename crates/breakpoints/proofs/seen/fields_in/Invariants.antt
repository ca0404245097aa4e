-- None of the nodes before sends the flow.
use Rattle.std.proofs.Common.{◌≡◌, drop}
use Rattle.net_machine.specs.Nodes.{parts_of}
use Rattle.flow_waits.specs.Stalled.{sender_of}
use Rattle.breakpoints.proofs.seen.fields_in.Given as goal

abbrev pub invariant-loop-node : goal.invariant-loop-node
invariant-loop-node l = sender_of l.flow (parts_of (drop l.node-index l.nodes)) ≡ sender_of l.flow (parts_of l.nodes)

-- None waits at the nodes before.
use Rattle.std.proofs.Common.{◌≡◌, drop}
use Rattle.net_machine.specs.Nodes.{parts_of}
use Rattle.flow_waits.specs.Stalled.{is_waiting}
use Rattle.flow_waits.proofs.stalled.is_waiting.Given as goal

abbrev pub invariant-loop-node : goal.invariant-loop-node
invariant-loop-node l = is_waiting l.flow (parts_of (drop l.node-index l.nodes)) ≡ is_waiting l.flow (parts_of l.nodes)

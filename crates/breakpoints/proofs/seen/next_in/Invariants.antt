-- None of the nodes before receives the flow.
use Rattle.std.proofs.Common.{◌≡◌, drop}
use Rattle.net_machine.specs.Nodes.{parts_of}
use Rattle.breakpoints.specs.Seen.{next_in}
use Rattle.breakpoints.proofs.seen.next_in.Given as goal

abbrev pub invariant-loop-node : goal.invariant-loop-node
invariant-loop-node l = next_in l.flow (parts_of (drop l.node-index l.nodes)) ≡ next_in l.flow (parts_of l.nodes)

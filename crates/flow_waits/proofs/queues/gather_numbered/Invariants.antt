-- The links of the nodes behind are still to be looked through.
use Rattle.std.proofs.Common.{◌≡◌, ◌++◌, drop}
use Rattle.net_machine.specs.Nodes.{parts_of}
use Rattle.flow_waits.specs.Waits.{waiting_numbered}
use Rattle.flow_waits.proofs.queues.gather_numbered.Given as goal

abbrev pub invariant-loop-node : goal.invariant-loop-node
invariant-loop-node l =
    l.all.items ++ waiting_numbered l.flow (parts_of (drop l.node-index l.nodes)) l.number ≡ l.initial.all.items ++ waiting_numbered l.flow (parts_of l.nodes) l.number

-- What is pending at the nodes behind is still to be appended.
use Rattle.std.proofs.Common.{◌≡◌, ◌++◌, drop}
use Rattle.tournament.specs.Gathered.{all_entries}
use Rattle.net_machine.specs.Nodes.{pendings}
use Rattle.trace_text.proofs.dump.events.node_by_node.Given as goal

abbrev pub invariant-loop-node : goal.invariant-loop-node
invariant-loop-node l = l.all.items ++ all_entries (pendings (drop l.node-index l.nodes)) ≡ all_entries (pendings l.nodes)

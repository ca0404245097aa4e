use Rattle.std.proofs.Common.{◌≡◌, take}
use Rattle.net_machine.specs.Nodes.{initial_nodes}
use Rattle.net_machine.proofs.initial.nodes_of.Given as goal

-- the nodes so far are the scenario's
abbrev pub invariant-loop-number : goal.invariant-loop-number
invariant-loop-number l = l.nodes.items ≡ take l.number (initial_nodes l.scenario)

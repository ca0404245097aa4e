-- The state that a node's fields are.
use Rattle.node_core.specs.declared.node.Node.TheInside.{Inside}
use Rattle.node_core.specs.Node.{NodeState}
use Rattle.node_core.specs.InStep.{IsInStep}

abbrev pub node_of : Inside → NodeState
node_of n = record { number = n.event_queue.owner.node; part = record { role = n.role; links = n.links.items }; incoming = n.event_queue.incoming; pending = n.event_queue.pending }

abbrev pub IsNodeInside : Inside → Type 0
IsNodeInside n = IsInStep n.role n.links.items n.event_queue

-- The link leaves none of the nodes before.
use Rattle.std.proofs.Common.{◌≡◌, drop}
use Rattle.net_machine.specs.Nodes.{parts_of}
use Rattle.breakpoints.specs.Seen.{link_in}
use Rattle.breakpoints.proofs.seen.link_in.Given as goal

abbrev pub invariant-loop-node : goal.invariant-loop-node
invariant-loop-node l = link_in l.number (parts_of (drop l.node-index l.nodes)) ≡ link_in l.number (parts_of l.nodes)

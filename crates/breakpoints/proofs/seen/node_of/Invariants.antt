-- None of the nodes before has it.
use Rattle.std.proofs.Common.{◌≡◌, ◌+◌, drop}
use Rattle.net_machine.specs.Nodes.{parts_of}
use Rattle.breakpoints.specs.Seen.{has_asked, first_with}
use Rattle.breakpoints.proofs.seen.node_of.Given as goal

abbrev pub invariant-loop-index : goal.invariant-loop-index
invariant-loop-index l = first_with (has_asked l.what) (parts_of l.nodes) ≡ l.index + first_with (has_asked l.what) (parts_of (drop l.index l.nodes))

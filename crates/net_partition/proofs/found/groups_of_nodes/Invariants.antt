use Rattle.std.proofs.Common.{◌<◌, All}
use Rattle.net_partition.proofs.found.groups_of_nodes.Given as goal

abbrev pub invariant-loop-node : goal.invariant-loop-node
invariant-loop-node l = All (λ group. group < l.workers) l.of_nodes

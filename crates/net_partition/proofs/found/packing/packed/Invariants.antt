use Rattle.std.proofs.Common.{◌<◌, All}
use Rattle.net_partition.proofs.found.packing.packed.Given as goal

abbrev pub invariant-loop-part : goal.invariant-loop-part
invariant-loop-part l = All (λ group. group < l.workers) l.groups

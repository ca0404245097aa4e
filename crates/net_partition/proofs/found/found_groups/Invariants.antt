use Rattle.std.proofs.Common.{◌≡◌, ◌<◌, All, length}
use Rattle.net_partition.proofs.found.found_groups.Given as goal

abbrev pub invariant-loop-delay : goal.invariant-loop-delay
invariant-loop-delay l = (All (λ group. group < l.workers) l.found.groups) × (length l.found.groups ≡ 256)

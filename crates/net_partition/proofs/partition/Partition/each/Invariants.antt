use Rattle.std.proofs.Common.{◌≡◌, take, length}
use Rattle.net_partition.specs.Partition.{alone}
use Rattle.net_partition.proofs.partition.Partition.each.Given as goal

abbrev pub invariant-loop-node : goal.invariant-loop-node
invariant-loop-node l = (length l.entries ≡ 256) × (take l.node l.entries ≡ alone l.node)

use Rattle.std.proofs.Common.{◌≡◌, take, length}
use Rattle.net_partition.proofs.partition.laid_out.Given as goal

abbrev pub invariant-loop-node : goal.invariant-loop-node
invariant-loop-node l = (length l.all ≡ 256) × (take l.node l.all ≡ take l.node l.entries)

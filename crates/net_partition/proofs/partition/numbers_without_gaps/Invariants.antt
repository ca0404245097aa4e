use Rattle.net_partition.proofs.Partitions.{AreNumbered}
use Rattle.net_partition.proofs.partition.numbers_without_gaps.Given as goal

abbrev pub invariant-loop-group : goal.invariant-loop-group
invariant-loop-group l = AreNumbered l.entries l.numbers l.count l.group-counter

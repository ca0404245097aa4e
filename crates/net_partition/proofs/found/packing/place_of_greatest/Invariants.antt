use Rattle.std.proofs.Common.{◌<◌, length}
use Rattle.net_partition.proofs.found.packing.place_of_greatest.Given as goal

abbrev pub invariant-loop-place : goal.invariant-loop-place
invariant-loop-place l = l.best < length l.counts

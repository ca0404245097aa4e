use Rattle.std.proofs.Common.{◌≡◌, max, drop}
use Rattle.net_partition.specs.Partition.{greatest_number}
use Rattle.net_partition.proofs.partition.greatest.Given as goal

abbrev pub invariant-loop-entry : goal.invariant-loop-entry
invariant-loop-entry l = max l.greatest (greatest_number (drop l.entry-index l.entries)) ≡ greatest_number l.entries

use Rattle.std.proofs.Common.{◌≡◌, nat_lt, drop}
use Rattle.std.specs.List.{list_all}
use Rattle.net_partition.proofs.partition.are_groups.Given as goal

abbrev pub invariant-loop-entry : goal.invariant-loop-entry
invariant-loop-entry l = list_all (λ group. nat_lt group 64) (drop l.entry-index l.entries) ≡ list_all (λ group. nat_lt group 64) l.entries

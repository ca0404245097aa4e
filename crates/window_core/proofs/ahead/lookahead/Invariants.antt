use Rattle.std.proofs.Common.{◌≡◌, drop}
use Rattle.net_partition.specs.Partition.{group_in}
use Rattle.window_law.specs.Lookahead.{lesser}
use Rattle.window_core.proofs.Aheads.{ahead}
use Rattle.window_core.proofs.ahead.lookahead.Given as goal

-- the least so far and that of the rest are together that of all
abbrev pub invariant-loop-link : goal.invariant-loop-link
invariant-loop-link l = lesser l.least (ahead (group_in l.partition) (drop l.link-index l.links)) ≡ ahead (group_in l.partition) l.links

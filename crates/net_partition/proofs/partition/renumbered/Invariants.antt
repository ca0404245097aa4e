use Rattle.std.proofs.Common.{◌≡◌, ◌<◌, All, get_or, length, map, take}
use Rattle.net_partition.proofs.partition.renumbered.Given as goal

abbrev pub invariant-loop-node : goal.invariant-loop-node
invariant-loop-node l =
    (length l.all ≡ 256) × All (λ group. group < 64) l.all × (take l.node l.all ≡ map (λ group. get_or l.numbers group 0) (take l.node l.groups))

use Rattle.std.proofs.Common.{◌<◌, ℕ}
use Rattle.std.proofs.lemmas.List.Elements.{All-replicate}
use Rattle.net_partition.proofs.found.groups_of_nodes.Goals as goal

pub loop-node-init : goal.loop-node-init
loop-node-init c = All-replicate (λ (group : ℕ). group < c.args.workers) 256 0 c.requires.some

use Rattle.std.proofs.Common.{◌≡◌, ℕ, take, replicate, ap, ◌∙◌}
use Rattle.std.proofs.lemmas.List.{take-replicate}
use Rattle.net_partition.specs.Partition.{is_partition}
use Rattle.net_partition.proofs.Partitions.{one_is}
use Rattle.net_partition.proofs.partition.Partition.one.Goals as goal

pub invariant_of-result : goal.invariant_of-result
invariant_of-result c =
    let first : take c.args.nodes c.zeros.result ≡ replicate {A = ℕ} c.args.nodes 0 = ap (take c.args.nodes) c.zeros.ensures ∙ take-replicate {X = ℕ} c.args.nodes 256 0 c.requires.1 in
    (c.requires.1, ap is_partition first ∙ one_is c.args.nodes c.requires.0 c.requires.1)

pub returns : goal.returns
returns c = ap (take c.args.nodes) c.zeros.ensures ∙ take-replicate {X = ℕ} c.args.nodes 256 0 c.requires.1

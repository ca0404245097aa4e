use Rattle.std.proofs.Common.{◌≡◌, ℕ, take, sym, ap, arith, ◌∙◌}
use Rattle.net_partition.specs.Partition.{is_partition, alone}
use Rattle.net_partition.proofs.Partitions.{alone_is}
use Rattle.net_partition.proofs.partition.Partition.each.Goals as goal

pub invariant_of-result : goal.invariant_of-result
invariant_of-result c =
    let past = c.loop-node-test.false in
    let upto = c.loop-node.auto.node-end in
    let last : c.args.nodes ≡ c.loop-node.node = omega (arith, past, upto) in
    let first : take c.args.nodes c.loop-node.entries ≡ alone c.args.nodes = ap (λ (n : ℕ). take n c.loop-node.entries) last ∙ c.loop-node.invariant.1 ∙ ap alone (sym last) in
    (c.requires.1, ap is_partition first ∙ alone_is c.args.nodes c.requires.0 c.requires.1)

use Rattle.std.proofs.Common.{◌≡◌, ◌≤◌, take, ap, ◌∙◌, arith}
use Rattle.net_partition.specs.Partition.{greatest_number, group_in, groups_of}
use Rattle.net_partition.proofs.Partitions.{upto_greatest, few_groups}
use Rattle.net_partition.proofs.partition.Partition.groups.Goals as goal

pub returns-clause-each : goal.returns-clause-each
returns-clause-each c node =
    let upto : group_in c.args.self.now node ≤ greatest_number c.args.self.now = upto_greatest c.args.self.now node in
    let is : c.from.result ≡ greatest_number c.args.self.now = c.from.ensures ∙ c.greatest.ensures ∙ ap greatest_number c.self.view_is in
    omega (arith, upto, is)

pub returns-clause-most : goal.returns-clause-most
returns-clause-most c =
    let few : groups_of (take c.self.inside.nodes c.self.inside.entries) ≤ 64 = few_groups (take c.self.inside.nodes c.self.inside.entries) c.self.invariant.1 in
    let is : c.from.result ≡ greatest_number (take c.self.inside.nodes c.self.inside.entries) = c.from.ensures ∙ c.greatest.ensures in
    omega (arith, few, is)

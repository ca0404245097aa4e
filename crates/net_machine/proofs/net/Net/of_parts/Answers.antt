use Rattle.std.proofs.Common.{List, sym, subst}
use Rattle.node_core.specs.Node.{NodeState}
use Rattle.net_machine.specs.NetOf.{IsNet}
use Rattle.net_machine.proofs.Joined.{net_of}
use Rattle.net_machine.proofs.net.Net.of_parts.Goals as goal

pub invariant_of-result : goal.invariant_of-result
invariant_of-result c =
    let parts = c.args.parts in
    let spare = c.spare.inside in
    subst (λ (nodes : List NodeState). IsNet nodes parts.links.items spare.out parts.end parts.position) (sym c.of_parts.ensures)
    (net_of parts.nodes.items parts.links.items parts.end parts.position c.requires.parts spare.out c.spare.invariant)

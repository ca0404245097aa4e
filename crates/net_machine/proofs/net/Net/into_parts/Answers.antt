use Rattle.std.proofs.Common.{List, sym, subst}
use Rattle.node_core.specs.Node.{NodeState}
use Rattle.net_machine.specs.NetOf.{AreNetParts}
use Rattle.net_machine.proofs.Joined.{parts_of_net}
use Rattle.net_machine.proofs.net.Net.into_parts.Goals as goal

pub returns-clause-parts : goal.returns-clause-parts
returns-clause-parts c =
    let net = c.self.inside in
    subst (λ (nodes : List NodeState). AreNetParts nodes net.ends.items net.end net.position) (sym c.into_parts-nodes.ensures.nodes)
    (parts_of_net net.nodes net.ends.items net.out net.end net.position c.self.invariant)

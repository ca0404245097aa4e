use Rattle.std.proofs.Common.{◌<◌, length, sym, ap, subst, ◌∙◌}
use Rattle.node_core.specs.Part.{link_at}
use Rattle.node_core.specs.Node.{NodeState}
use Rattle.node_group.proofs.AtPlace.{inside, node_is}
use Rattle.node_group.proofs.nodes_by_number.NodesByNumber.link_number.Goals as goal

pub link_number-requires-clause-within : goal.link_number-requires-clause-within
link_number-requires-clause-within c =
    inside c.self.inside.nodes c.self.inside.index.items c.self.invariant c.args.self.now c.self.view_is c.args.at c.requires.within

pub link_number-requires-clause-index : goal.link_number-requires-clause-index
link_number-requires-clause-index c =
    subst (λ (n : NodeState). c.args.index < length n.part.links)
    (sym (node_is c.self.inside.nodes c.self.inside.index.items c.self.invariant c.args.self.now c.self.view_is c.args.at c.requires.within))
    c.requires.index

pub returns : goal.returns
returns c =
    c.link_number.ensures
    ∙ ap (λ (n : NodeState). (link_at n.part.links c.args.index).port.link) (node_is c.self.inside.nodes c.self.inside.index.items c.self.invariant c.args.self.now c.self.view_is c.args.at c.requires.within)

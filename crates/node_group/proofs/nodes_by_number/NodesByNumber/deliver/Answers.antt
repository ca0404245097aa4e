use Rattle.std.proofs.Common.{◌<◌, ◌≤◌, ◌+◌, ◌^◌, ◌≡◌, All, length, refl, sym, subst}
use Rattle.tournament.specs.Keyed.{EachKey}
use Rattle.node_core.specs.EventQueueState.{incoming_at}
use Rattle.node_core.specs.WireState.{stamps_of}
use Rattle.node_core.specs.Node.{NodeState, delivered}
use Rattle.net_machine.specs.Nodes.{node_at}
use Rattle.node_group.proofs.AtPlace.{inside, node_is, same_seats, members_come, nodes_come}
use Rattle.node_group.proofs.nodes_by_number.NodesByNumber.deliver.Goals as goal

pub deliver-requires-clause-place : goal.deliver-requires-clause-place
deliver-requires-clause-place c =
    inside c.self.inside.nodes c.self.inside.index.items c.self.invariant c.args.self.now c.self.view_is c.args.at c.requires.place

pub deliver-requires-clause-within : goal.deliver-requires-clause-within
deliver-requires-clause-within c =
    subst (λ (n : NodeState). c.args.index < length n.incoming)
    (sym (node_is c.self.inside.nodes c.self.inside.index.items c.self.invariant c.args.self.now c.self.view_is c.args.at c.requires.place))
    c.requires.within

pub deliver-requires-clause-later : goal.deliver-requires-clause-later
deliver-requires-clause-later c =
    subst (λ (n : NodeState). All (λ stamp. EachKey (λ k. k.source ≡ (incoming_at n.incoming c.args.index).link + 1 → k.time < stamp) n.pending) (stamps_of c.args.chain.now))
    (sym (node_is c.self.inside.nodes c.self.inside.index.items c.self.invariant c.args.self.now c.self.view_is c.args.at c.requires.place))
    c.requires.later

pub deliver-requires-clause-few : goal.deliver-requires-clause-few
deliver-requires-clause-few c =
    subst (λ (n : NodeState). (incoming_at n.incoming c.args.index).came + length c.args.chain.now ≤ 2 ^ 50)
    (sym (node_is c.self.inside.nodes c.self.inside.index.items c.self.invariant c.args.self.now c.self.view_is c.args.at c.requires.place))
    c.requires.few

pub invariant_of-self : goal.invariant_of-self
invariant_of-self c =
    members_come c.self.inside.nodes c.self.inside.index.items c.self.invariant c.args.self.now c.self.view_is c.args.at c.requires.place (delivered (node_at c.self.inside.nodes c.args.at) c.args.index c.args.chain.now) c.deliver.new.self c.deliver.ensures.nodes c.args.index c.args.chain.now refl

pub returns-clause-nodes : goal.returns-clause-nodes
returns-clause-nodes c =
    nodes_come c.self.inside.nodes c.self.inside.index.items c.self.invariant c.args.self.now c.self.view_is c.args.at c.requires.place (delivered (node_at c.self.inside.nodes c.args.at) c.args.index c.args.chain.now) c.deliver.new.self c.deliver.ensures.nodes c.args.index c.args.chain.now refl

pub returns-clause-placed : goal.returns-clause-placed
returns-clause-placed c =
    (members_come c.self.inside.nodes c.self.inside.index.items c.self.invariant c.args.self.now c.self.view_is c.args.at c.requires.place (delivered (node_at c.self.inside.nodes c.args.at) c.args.index c.args.chain.now) c.deliver.new.self c.deliver.ensures.nodes c.args.index c.args.chain.now refl).placed

pub returns-clause-taken : goal.returns-clause-taken
returns-clause-taken c =
    same_seats c.self.inside.nodes c.self.inside.index.items c.self.invariant c.args.self.now c.self.view_is c.args.at c.requires.place (delivered (node_at c.self.inside.nodes c.args.at) c.args.index c.args.chain.now) c.deliver.new.self c.deliver.ensures.nodes

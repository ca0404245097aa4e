use Rattle.std.proofs.Common.{◌<◌, ◌≤◌, List, length, is_some, sym, ap, subst, Option}
use Rattle.node_core.specs.Node.{NodeState}
use Rattle.node_group.proofs.InRow.{place_found, place_free}
use Rattle.node_group.proofs.nodes_by_number.NodesByNumber.place.Goals as goal

pub returns-then-at-as_slice-clause-place : goal.returns-then-at-as_slice-clause-place
returns-then-at-as_slice-clause-place c =
    place_found c.self.inside.nodes c.self.inside.index.items c.self.invariant c.args.self.now c.self.view_is c.args.number c.requires c.index.result.now c.index.ensures
    (subst (λ (nodes : List NodeState). c.index.result.now < length nodes) c.as_slice.ensures c.if-at-as_slice.true)

pub returns-else-at-as_slice-clause-has : goal.returns-else-at-as_slice-clause-has
returns-else-at-as_slice-clause-has c =
    sym (ap (λ (o : Option NodeState). is_some o)
    (place_free c.self.inside.nodes c.self.inside.index.items c.self.invariant c.args.self.now c.self.view_is c.args.number c.requires c.index.result.now c.index.ensures
    (subst (λ (nodes : List NodeState). length nodes ≤ c.index.result.now) c.as_slice.ensures c.if-at-as_slice.false)))

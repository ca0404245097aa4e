use Rattle.std.proofs.Common.{◌≡◌, ◌+◌, ◌∷◌, suc, drop, sym, ap, ◌∙◌, arith}
use Rattle.packet_chain.specs.Links.{stamped_of, place_of}
use Rattle.packet_chain.proofs.Linked.{IsLinked-had, held_from, next_is}
use Rattle.packet_chain.proofs.iter.IterIterator.next.Goals as goal

pub invariant_of-self : goal.invariant_of-self
invariant_of-self c =
    let it = c.self.inside in
    let nodes = it.nodes.now in
    let some = c.if-self-eq0.false in
    let whole = c.self.invariant.0 in
    let limit = c.self.invariant.1 in
    let on : suc it.from ≡ it.from + 1 = omega arith in (
      omega arith,
      omega arith,
      λ more. next_is nodes.head nodes.tail nodes.links it.from it.next.at c.node-node.result.now (IsLinked-had nodes.head nodes.tail nodes.links nodes.linked) c.node-node.ensures (omega arith) ∙ ap (place_of nodes.links) on,
    )

pub returns-clause-steps : goal.returns-clause-steps
returns-clause-steps c =
    let it = c.self.inside in
    let on : suc it.from ≡ it.from + 1 = omega arith in
    let node = c.node-node.result.now in
    sym c.self.view_is ∙ held_from it.nodes.now.links it.from it.next.at node c.node-node.ensures ∙ ap (λ k. (node.packet, node.stamp) ∷ drop k (stamped_of it.nodes.now.links)) on

use Rattle.std.proofs.Common.{List, sym, subst, ◌∙◌}
use Rattle.packet_chain.specs.Stamped.{Stamped}
use Rattle.node_core.specs.Node.{NodeState}
use Rattle.net_machine.specs.declared.places.LinkEnds.{LinkEnds}
use Rattle.net_machine.specs.NetOf.{IsNet}
use Rattle.net_machine.proofs.net.Net.copy_in.Goals as goal

pub invariant_of-result : goal.invariant_of-result
invariant_of-result c =
    let n = c.self.inside in
    let with_out = subst (λ (out : List (List Stamped)). IsNet n.nodes n.ends.items out n.end n.position) (c.self.invariant.out_empty ∙ sym c.in_ok-new.ensures) c.self.invariant in
    let with_ends = subst (λ (ends : List LinkEnds). IsNet n.nodes ends c.in_ok-new.field-0 n.end n.position) (sym c.in_ok-copied.ensures) with_out in
    subst (λ (nodes : List NodeState). IsNet nodes c.in_ok-copied.field-0.items c.in_ok-new.field-0 n.end n.position) (sym c.in_ok-copy_in.ensures) with_ends

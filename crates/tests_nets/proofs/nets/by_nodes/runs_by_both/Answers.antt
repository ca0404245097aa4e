use Rattle.std.proofs.Common.{◌≡◌, ◌<◌, ◌≤◌, List, [], length, replicate, refl, sym, ap, subst, ◌∙◌, Some, arith, rules}
use Rattle.std.proofs.lemmas.List.{get_or_read}
use Rattle.sim_time.specs.declared.key.Key.{Key}
use Rattle.sim_time.specs.declared.limits.TheConstants.{MOST_EVENTS}
use Rattle.packet_chain.specs.Stamped.{Stamped}
use Rattle.tournament.specs.Leading.{Leads}
use Rattle.tournament.specs.Timed.{AreInPlace}
use Rattle.tournament.specs.Keyed.{least, next_key}
use Rattle.tournament.proofs.Maps.{not_some}
use Rattle.node_core.specs.Ready.{IsRunnable}
use Rattle.node_core.specs.Node.{NodeState}
use Rattle.net_machine.specs.Nodes.{no_node, node_at, next_keys, net_pending, IsFirst}
use Rattle.net_machine.specs.NetOf.{IsNet}
use Rattle.net_machine.proofs.AtNodes.{next_at, first_node, first_key}
use Rattle.net_machine.proofs.InPlace.{placed_in_place}
use Rattle.net_machine.proofs.Joined.{net_of}
use Rattle.net_machine.proofs.Steps.{its_key, ready}
use Rattle.tests_nets.proofs.nets.by_nodes.runs_by_both.Goals as goal

abbrev empty : List (List Stamped)
empty = replicate 16 []

pub first-requires : goal.first-requires
first-requires g c = record { in_place = subst (λ (all : List NodeState). AreInPlace (next_keys all)) (sym c.of_parts-all.ensures) (placed_in_place c.into_parts-parts.result.nodes.items c.into_parts-parts.ensures.parts.placed) }

pub fired-line-requires-clause-pending : goal.fired-line-requires-clause-pending
fired-line-requires-clause-pending g c = λ none.
    let p = c.into_parts-parts.result in
    let place = c.in-Some.place in
    let net : IsNet p.nodes.items p.links.items empty p.end p.position = net_of p.nodes.items p.links.items p.end p.position c.into_parts-parts.ensures.parts empty refl in
    let leads : Leads (next_keys p.nodes.items) place c.in-Some.ensures.key = subst (λ (all : List NodeState). Leads (next_keys all) place c.in-Some.ensures.key) c.of_parts-all.ensures c.in-Some.ensures.leads in
    let first : IsFirst p.nodes.items place = first_node p.nodes.items net.placed place c.in-Some.ensures.key leads in
    let same : c.into_parts-nodes.result.0.items ≡ p.nodes.items = c.into_parts-nodes.ensures.nodes ∙ c.of_parts-all.ensures in
    let within : place < length c.into_parts-nodes.result.0.items = subst (λ (all : List NodeState). place < length all) (sym same) first.within in
    let is : c.index_mut-node.result.now ≡ node_at p.nodes.items place =
    get_or_read c.into_parts-nodes.result.0.items place c.index_mut-node.result.now within c.index_mut-node.ensures.value no_node ∙ ap (λ (all : List NodeState). node_at all place) same in
    not_some (sym (ap (λ (n : NodeState). next_key n.pending) (sym is) ∙ none) ∙ sym (next_at p.nodes.items place) ∙ leads.held)

pub fired-line-requires-clause-due : goal.fired-line-requires-clause-due
fired-line-requires-clause-due g c = λ k v here.
    let p = c.into_parts-parts.result in
    let place = c.in-Some.place in
    let net : IsNet p.nodes.items p.links.items empty p.end p.position = net_of p.nodes.items p.links.items p.end p.position c.into_parts-parts.ensures.parts empty refl in
    let leads : Leads (next_keys p.nodes.items) place c.in-Some.ensures.key = subst (λ (all : List NodeState). Leads (next_keys all) place c.in-Some.ensures.key) c.of_parts-all.ensures c.in-Some.ensures.leads in
    let first : IsFirst p.nodes.items place = first_node p.nodes.items net.placed place c.in-Some.ensures.key leads in
    let its : Some c.in-Some.ensures.key ≡ next_key (net_pending p.nodes.items) = first_key p.nodes.items net.placed place c.in-Some.ensures.key leads in
    let same : c.into_parts-nodes.result.0.items ≡ p.nodes.items = c.into_parts-nodes.ensures.nodes ∙ c.of_parts-all.ensures in
    let within : place < length c.into_parts-nodes.result.0.items = subst (λ (all : List NodeState). place < length all) (sym same) first.within in
    let is : c.index_mut-node.result.now ≡ node_at p.nodes.items place =
    get_or_read c.into_parts-nodes.result.0.items place c.index_mut-node.result.now within c.index_mut-node.ensures.value no_node ∙ ap (λ (all : List NodeState). node_at all place) same in
    let there : least (node_at p.nodes.items place).pending ≡ Some (k, v) = ap (λ (n : NodeState). least n.pending) (sym is) ∙ here in
    let soon : c.in-Some.ensures.key.time < p.end = omega (arith, c.in-Some.ensures.at_time, c.if-time-parts.false) in
    let fits : p.position < MOST_EVENTS = omega (arith, c.into_parts-parts.ensures.parts.run.position_fits, c.if-parts-eq-MOST_EVENTS.false) in
    subst (λ (n : NodeState). IsRunnable n.part k v) (sym is)
    (ready p.nodes.items p.links.items empty p.end p.position net place first k v there
    (subst (λ (q : Key). q.time < p.end) (its_key p.nodes.items p.links.items empty p.end p.position net place first c.in-Some.ensures.key its k v there) soon) fits)

pub fired-line-requires-clause-chains : goal.fired-line-requires-clause-chains
fired-line-requires-clause-chains g c =
    let p = c.into_parts-parts.result in
    let place = c.in-Some.place in
    let net : IsNet p.nodes.items p.links.items empty p.end p.position = net_of p.nodes.items p.links.items p.end p.position c.into_parts-parts.ensures.parts empty refl in
    let leads : Leads (next_keys p.nodes.items) place c.in-Some.ensures.key = subst (λ (all : List NodeState). Leads (next_keys all) place c.in-Some.ensures.key) c.of_parts-all.ensures c.in-Some.ensures.leads in
    let first : IsFirst p.nodes.items place = first_node p.nodes.items net.placed place c.in-Some.ensures.key leads in
    let same : c.into_parts-nodes.result.0.items ≡ p.nodes.items = c.into_parts-nodes.ensures.nodes ∙ c.of_parts-all.ensures in
    let within : place < length c.into_parts-nodes.result.0.items = subst (λ (all : List NodeState). place < length all) (sym same) first.within in
    let is : c.index_mut-node.result.now ≡ node_at p.nodes.items place =
    get_or_read c.into_parts-nodes.result.0.items place c.index_mut-node.result.now within c.index_mut-node.ensures.value no_node ∙ ap (λ (all : List NodeState). node_at all place) same in
    let room : length c.outbox-out.result ≡ 16 = search rules in
    let few : length c.index_mut-node.result.now.part.links ≤ 16 = subst (λ (n : NodeState). length n.part.links ≤ 16) (sym is) (net.wired.few place) in
    omega (arith, few, room)

use Rattle.std.proofs.Common.{◌≡◌, ◌<◌, List, length, sym, ap, subst, ◌∙◌}
use Rattle.std.proofs.lemmas.List.{get_or_read}
use Rattle.std.specs.Option.{option_map}
use Rattle.sim_time.specs.declared.key.Key.{Key}
use Rattle.tournament.specs.Keyed.{next_key}
use Rattle.node_core.specs.declared.event.Event.{Event}
use Rattle.node_core.specs.Node.{NodeState}
use Rattle.net_machine.specs.Run.{Reached}
use Rattle.net_machine.specs.Nodes.{no_node, node_at}
use Rattle.net_machine.proofs.AtNodes.{net_none}
use Rattle.net_machine.proofs.InPlace.{placed_in_place}
use Rattle.net_machine.proofs.Led.{led_within, led_key}
use Rattle.net_machine.proofs.net.Net.first.Goals as goal

pub first-requires : goal.first-requires
first-requires c = record { in_place = placed_in_place c.self.inside.nodes c.self.invariant.placed }

pub returns-in-Some : goal.returns-in-Some
returns-in-Some c =
    let nodes = c.self.inside.nodes in
    let place = c.in-Some.place in
    let within = subst (λ (all : List NodeState). place < length all) (sym c.as_slice.ensures) (led_within nodes c.self.invariant.placed place c.in-Some.field-0-1 c.in-Some.ensures) in
    let is : c.index-as_slice-place.result ≡ node_at nodes place = get_or_read c.as_slice.result.now place c.index-as_slice-place.result within c.index-as_slice-place.is no_node ∙ ap (λ (all : List NodeState). node_at all place) c.as_slice.ensures in
    c.least.ensures
    ∙ ap (λ (n : NodeState). next_key n.pending) is
    ∙ led_key nodes c.self.invariant.placed place c.in-Some.field-0-1 c.in-Some.ensures
    ∙ ap (λ (r : Reached). next_key r.state.pending) c.self.view_is

pub returns-in-None : goal.returns-in-None
returns-in-None c =
    sym (ap (option_map (λ (entry : Key × Event). entry.0)) (net_none c.self.inside.nodes c.self.invariant.placed c.in-None.ensures)) ∙ ap (λ (r : Reached). next_key r.state.pending) c.self.view_is

use Rattle.std.proofs.Common.{◌≡◌, ◌<◌, List, length, set, sym, ap, subst, ◌∙◌, Some}
use Rattle.std.proofs.lemmas.List.{get_or_read}
use Rattle.sim_time.specs.declared.key.Key.{Key}
use Rattle.tournament.specs.Keyed.{least}
use Rattle.node_core.specs.declared.event.Event.{Event}
use Rattle.node_core.specs.Ready.{IsRunnable}
use Rattle.node_core.specs.Node.{NodeState}
use Rattle.net_machine.specs.Nodes.{no_node, node_at}
use Rattle.net_machine.proofs.AtNodes.{timed_set}
use Rattle.net_machine.proofs.nodes.Nodes.fire_into.Goals as goal

pub fire_into-requires-clause-due : goal.fire_into-requires-clause-due
fire_into-requires-clause-due c =
    let nodes = c.self.inside.nodes.items in
    let within : c.args.place < length nodes = subst (λ (s : List NodeState). c.args.place < length s) (sym c.self.view_is) c.requires.within in
    let is : c.index_mut-node.result.now ≡ node_at nodes c.args.place = get_or_read nodes c.args.place c.index_mut-node.result.now within c.index_mut-node.ensures.value no_node in
    let here : c.index_mut-node.result.now ≡ node_at c.args.self.now c.args.place = is ∙ ap (λ (s : List NodeState). node_at s c.args.place) c.self.view_is in
    subst (λ (x : NodeState). (k : Key) (v : Event) → least x.pending ≡ Some (k, v) → IsRunnable x.part k v) (sym here) c.requires.due

pub invariant_of-self-2 : goal.invariant_of-self-2
invariant_of-self-2 c =
    c.set.ensures ∙ ap (set c.self.inside.timetable c.args.place) c.next_time-next.ensures
    ∙ timed_set c.self.inside.nodes.items c.self.inside.timetable c.args.place c.fire_into.new.self c.self.invariant

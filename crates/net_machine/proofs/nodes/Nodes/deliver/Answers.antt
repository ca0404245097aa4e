use Rattle.std.proofs.Common.{◌≡◌, ◌<◌, List, length, set, sym, ap, subst, ◌∙◌}
use Rattle.std.proofs.lemmas.List.{get_or_read}
use Rattle.tournament.specs.Keyed.{next_key}
use Rattle.node_core.specs.Node.{NodeState}
use Rattle.net_machine.specs.Nodes.{no_node, node_at}
use Rattle.net_machine.proofs.AtNodes.{timed_set, timed_stays}
use Rattle.net_machine.proofs.nodes.Nodes.deliver.Goals as goal

pub invariant_of-self-2 : goal.invariant_of-self-2
invariant_of-self-2 c =
    c.set.ensures ∙ ap (set c.self.inside.timetable c.args.place) c.next_time-next.ensures
    ∙ timed_set c.self.inside.nodes.items c.self.inside.timetable c.args.place c.deliver_behind.new.self c.self.invariant

pub invariant_of-self : goal.invariant_of-self
invariant_of-self c =
    let nodes = c.self.inside.nodes.items in
    let within : c.args.place < length nodes = subst (λ (s : List NodeState). c.args.place < length s) (sym c.self.view_is) c.requires.place in
    let is : c.index_mut-node.result.now ≡ node_at nodes c.args.place = get_or_read nodes c.args.place c.index_mut-node.result.now within c.index_mut-node.ensures.value no_node in
    timed_stays nodes c.self.inside.timetable c.args.place c.deliver_behind.new.self c.self.invariant (c.deliver_behind.ensures.stays c.if-deliver_behind.true ∙ ap (λ (x : NodeState). next_key x.pending) is)

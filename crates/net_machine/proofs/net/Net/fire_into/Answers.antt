use Rattle.std.proofs.Common.{◌+◌, List, Some, refl, subst}
use Rattle.node_core.specs.TraceLine.{shown}
use Rattle.table_run.specs.State.{due}
use Rattle.net_machine.specs.declared.places.LinkEnds.{LinkEnds}
use Rattle.net_machine.specs.Run.{Reached, Stepped}
use Rattle.net_machine.specs.Nodes.{reached}
use Rattle.net_machine.specs.NetOf.{IsNet}
use Rattle.net_machine.proofs.First.{place_due}
use Rattle.net_machine.proofs.NetEvent.{net_due, can_run, can_go, is_step, is_net}
use Rattle.net_machine.proofs.net.Net.fire_into.Goals as goal

pub run_event-requires-clause-can_run : goal.run_event-requires-clause-can_run
run_event-requires-clause-can_run c =
    let n = c.self.inside in
    can_run (net_due n.nodes n.ends.items c.deref.result.now n.out n.end n.position c.args.next.place c.args.next.place c.args.self.now c.deref.ensures.value c.self.invariant c.self.view_is (place_due c.args.next (due c.args.self.now.state) c.requires.due) c.requires.few refl)

pub run_event-requires-clause-can_go_on : goal.run_event-requires-clause-can_go_on
run_event-requires-clause-can_go_on c =
    let n = c.self.inside in
    can_go (net_due n.nodes n.ends.items c.deref.result.now n.out n.end n.position c.args.next.place c.args.next.place c.args.self.now c.deref.ensures.value c.self.invariant c.self.view_is (place_due c.args.next (due c.args.self.now.state) c.requires.due) c.requires.few refl)

pub invariant_of-self-2 : goal.invariant_of-self-2
invariant_of-self-2 c =
    let n = c.self.inside in
    let d = net_due n.nodes n.ends.items c.deref.result.now n.out n.end n.position c.args.next.place c.args.next.place c.args.self.now c.deref.ensures.value c.self.invariant c.self.view_is (place_due c.args.next (due c.args.self.now.state) c.requires.due) c.requires.few refl in
    subst (λ (ends : List LinkEnds). IsNet c.run_event.new.region ends c.run_event.new.out n.end (n.position + 1)) c.deref.ensures.value
    (is_net d (shown c.run_event.new.line) c.run_event.new.region c.in_ok-run_event.ensures.ok c.run_event.new.out c.run_event.ensures.empty)

pub returns-clause-ok : goal.returns-clause-ok
returns-clause-ok c =
    let n = c.self.inside in
    let d = net_due n.nodes n.ends.items c.deref.result.now n.out n.end n.position c.args.next.place c.args.next.place c.args.self.now c.deref.ensures.value c.self.invariant c.self.view_is (place_due c.args.next (due c.args.self.now.state) c.requires.due) c.requires.few refl in
    subst (λ (r : Reached). Stepped r (Some (shown c.run_event.new.line)) (reached c.run_event.new.region n.end (n.position + 1))) c.self.view_is
    (is_step d (shown c.run_event.new.line) c.run_event.new.region c.in_ok-run_event.ensures.ok)

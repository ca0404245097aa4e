use Rattle.std.proofs.Common.{◌≡◌, ◌≤◌, Some, arith, length, sym, subst}
use Rattle.sim_time.specs.declared.key.Key.{Key}
use Rattle.tournament.specs.Keyed.{least}
use Rattle.port.specs.ActList.{ActList}
use Rattle.node_core.specs.declared.event.Event.{Event}
use Rattle.node_core.specs.Node.{NodeState}
use Rattle.node_core.specs.Ready.{IsRunnable}
use Rattle.node_core.proofs.Due.{is_next}
use Rattle.node_core.proofs.node.Node.fire_into.Goals as goal

abbrev Due : NodeState → Type 0
Due s = (k : Key) (v : Event) → least s.pending ≡ Some (k, v) → IsRunnable s.part k v

pub run-requires-clause-room : goal.run-requires-clause-room
run-requires-clause-room c = subst (λ (a : ActList). 1 ≤ a.room) (sym c.reset.ensures) (omega arith)

pub run-requires-clause-can : goal.run-requires-clause-can
run-requires-clause-can c =
    let key = c.tell_least.new.key in
    let event = c.tell_least.new.event in
    let is_least = c.tell_least.ensures.value in
    let runnable = subst Due (sym c.self.view_is) c.requires.due key event is_least in
    record {
      in_step = c.self.invariant;
      next = is_next c.self.inside.role c.self.inside.links.items c.self.inside.event_queue c.args.out.now key event c.self.invariant c.tell_least.ensures.due runnable is_least
          (subst (λ (s : NodeState). length s.part.links ≤ length c.args.out.now) (sym c.self.view_is) c.requires.chains) c.requires.room;
      runs = runnable.can;
    }

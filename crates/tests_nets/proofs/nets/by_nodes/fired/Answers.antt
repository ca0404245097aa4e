use Rattle.std.proofs.Common.{◌≡◌, Some, sym, subst}
use Rattle.sim_time.specs.declared.key.Key.{Key}
use Rattle.tournament.specs.Keyed.{least}
use Rattle.node_core.specs.declared.event.Event.{Event}
use Rattle.node_core.specs.Ready.{IsRunnable}
use Rattle.node_core.specs.Node.{NodeState}
use Rattle.tests_nets.proofs.nets.by_nodes.fired.Goals as goal

pub fire-requires-in-Err-clause-due : goal.fire-requires-in-Err-clause-due
fire-requires-in-Err-clause-due g c =
    subst (λ (n : NodeState). (k : Key) (v : Event) → least n.pending ≡ Some (k, v) → IsRunnable n.part k v) (sym c.in-Err.ensures.same) c.requires.due

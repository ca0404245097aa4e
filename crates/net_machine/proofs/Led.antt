-- The node that has the key that leads: its key is the least of all, and its event is due where that is below the end.
use Rattle.std.proofs.Common.{◌≡◌, ℕ, ◌<◌, ◌≤◌, List, length, sym, ap, ◌∙◌, Some, None, cond, arith}
use Rattle.std.proofs.lemmas.Bool.{lt-ltb, le-ltb}
use Rattle.std.specs.Option.{option_map}
use Rattle.tournament.specs.Keyed.{least, next_key}
use Rattle.tournament.proofs.Maps.{next_some}
use Rattle.node_core.specs.Node.{NodeState}
use Rattle.table_run.specs.State.{below, due}
use Rattle.net_machine.specs.Due.{due_of}
use Rattle.net_machine.specs.Nodes.{node_at, net_pending, net_state, IsPlaced, LeadsAt}
use Rattle.net_machine.proofs.AtNodes.{next_at, first_key}
use Rattle.net_machine.proofs.InPlace.{has_node, placed_names}

module _ (nodes : List NodeState) (placed : IsPlaced nodes) (place time : ℕ) (led : LeadsAt nodes place time) where
  pub led_within : place < length nodes
  led_within = has_node nodes place led.key led.leads.held

  least_is : Some led.key ≡ next_key (net_pending nodes)
  least_is = first_key nodes placed place led.key led.leads

  pub led_key : next_key (node_at nodes place).pending ≡ next_key (net_pending nodes)
  led_key = sym (next_at nodes place) ∙ led.leads.held ∙ least_is

  module _ (end : ℕ) where
    pub led_due : time < end → Some (record { place = place; time = time }) ≡ option_map due_of (due (net_state nodes end))
    led_due early =
        let found = next_some (least (net_pending nodes)) led.key (sym least_is) in
        let here = placed_names nodes placed place led.key led.leads.held in
        (λ i. Some (record { place = sym here i; time = sym led.at_time i }))
        ∙ sym (ap (option_map due_of) (ap (below end) found.1 ∙ ap (λ b. cond b (Some (led.key, found.0)) None) (lt-ltb led.key.time end (omega (arith, early, led.at_time)))))

    pub led_late : end ≤ time → due (net_state nodes end) ≡ None
    led_late late =
        let found = next_some (least (net_pending nodes)) led.key (sym least_is) in
        ap (below end) found.1 ∙ ap (λ b. cond b (Some (led.key, found.0)) None) (le-ltb led.key.time end (omega (arith, late, led.at_time)))

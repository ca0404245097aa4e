-- An event changes what is pending at its own node, and what comes to a node is pending there.
use Rattle.std.proofs.Common.{◌≡◌, ℕ, ◌+◌, ◌<◌, List, [], ◌∷◌, refl, sym, ap, subst, ◌∙◌, Some, None, set, length}
use Rattle.std.specs.FinMap as fin
use Rattle.sim_time.specs.declared.key.Key.{Key}
use Rattle.packet_chain.specs.Stamped.{Stamped}
use Rattle.tournament.specs.Keyed.{apply, entering, least}
use Rattle.tournament.proofs.Maps.{least_is}
use Rattle.node_core.specs.declared.event.Event.{Event}
use Rattle.node_core.specs.Pending.{Events}
use Rattle.node_core.specs.WireState.{arrivals}
use Rattle.node_core.specs.EventQueueState.{incoming_at}
use Rattle.node_core.specs.Row.{row, home_changes}
use Rattle.node_core.specs.Node.{NodeState, fired, delivered}
use Rattle.table_run.proofs.AtHome.{AreAt, home_at}
use Rattle.net_machine.specs.Nodes.{node_at, net_pending, IsPlaced}
use Rattle.net_machine.proofs.AtNodes.{pending_at, placed_set, pending_set}

come_at : (node link before : ℕ) (packets : List Stamped) → AreAt node (entering (arrivals node link before packets))
come_at node link before [] = tt
come_at node link before (packet ∷ packets) = (refl, come_at node link (before + 1) packets)

module _ (nodes : List NodeState) (placed : IsPlaced nodes) (place : ℕ) (within : place < length nodes) where
  key_here : (k : Key) (v : Event) → least (node_at nodes place).pending ≡ Some (k, v) → k.node ≡ place
  key_here k v is_least = placed.at_home place k v (ap (λ (m : Events). fin.get m k) (pending_at nodes place) ∙ (least_is (node_at nodes place).pending k v is_least).pending)

  -- a node runs its least event
  module _ (k : Key) (v : Event) (is_least : least (node_at nodes place).pending ≡ Some (k, v)) where
    pub its_node : k.node ≡ place
    its_node = key_here k v is_least

    here : AreAt place ((k, None) ∷ home_changes k.node (row (node_at nodes place).part k v))
    here = subst (λ n. AreAt n ((k, None) ∷ home_changes k.node (row (node_at nodes place).part k v))) its_node (refl, home_at (node_at nodes place).part k v)

    number_is : (node_at nodes place).number ≡ k.node
    number_is = placed.number place within ∙ sym its_node

    module _ (new : NodeState) (is_fired : new ≡ fired (node_at nodes place) k (row (node_at nodes place).part k v)) where
      change : new.pending ≡ apply ((k, None) ∷ home_changes k.node (row (node_at nodes place).part k v)) (node_at nodes place).pending
      change = ap (λ (n : NodeState). n.pending) is_fired
          ∙ ap (λ n. apply (home_changes n (row (node_at nodes place).part k v)) (fin.remove (node_at nodes place).pending k)) number_is

      pub fired_placed : IsPlaced (set nodes place new)
      fired_placed = placed_set nodes placed place within new (ap (λ (n : NodeState). n.number) is_fired) ((k, None) ∷ home_changes k.node (row (node_at nodes place).part k v)) here change

      pub fired_pending : net_pending (set nodes place new) ≡ apply (home_changes k.node (row (node_at nodes place).part k v)) (fin.remove (net_pending nodes) k)
      fired_pending = pending_set nodes placed place within new (ap (λ (n : NodeState). n.number) is_fired) ((k, None) ∷ home_changes k.node (row (node_at nodes place).part k v)) here change

  -- packets come to a node
  module _ (index : ℕ) (packets : List Stamped) where
    module _ (new : NodeState) (is_delivered : new ≡ delivered (node_at nodes place) index packets) where
      come_change : new.pending ≡ apply (entering (arrivals place (incoming_at (node_at nodes place).incoming index).link (incoming_at (node_at nodes place).incoming index).came packets)) (node_at nodes place).pending
      come_change = ap (λ (n : NodeState). n.pending) is_delivered
          ∙ ap (λ n. apply (entering (arrivals n (incoming_at (node_at nodes place).incoming index).link (incoming_at (node_at nodes place).incoming index).came packets)) (node_at nodes place).pending) (placed.number place within)

      pub come_placed : IsPlaced (set nodes place new)
      come_placed = placed_set nodes placed place within new (ap (λ (n : NodeState). n.number) is_delivered) _ (come_at place _ _ packets) come_change

      pub come_pending : net_pending (set nodes place new) ≡ apply (entering (arrivals place (incoming_at (node_at nodes place).incoming index).link (incoming_at (node_at nodes place).incoming index).came packets)) (net_pending nodes)
      come_pending = pending_set nodes placed place within new (ap (λ (n : NodeState). n.number) is_delivered) _ (come_at place _ _ packets) come_change

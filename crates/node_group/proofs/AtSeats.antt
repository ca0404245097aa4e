-- What a change at one seat does to all that are seated.
use Rattle.std.proofs.Common.{◌≡◌, ℕ, ◌<◌, List, length, set, get_or, sym, ap, subst, ◌∙◌, Some, None, Option, arith}
use Rattle.std.proofs.lemmas.List.{get_or-set_same}
use Rattle.tournament.specs.Keyed.{next_key}
use Rattle.tournament.proofs.Gathered.{next_empty}
use Rattle.packet_chain.specs.Stamped.{Stamped}
use Rattle.node_core.specs.declared.event.Event.{Event}
use Rattle.node_core.specs.TraceLine.{TraceLine}
use Rattle.node_core.specs.Node.{NodeState, delivered, HasFired}
use Rattle.net_machine.specs.Nodes.{no_node, node_at, IsPlaced}
use Rattle.net_machine.proofs.Home.{fired_placed, come_placed}
use Rattle.node_group.specs.Seats.{Seats, absent, seated}
use Rattle.node_group.proofs.Seated.{length-seated, seated_at, seated_set, nobody}

module _ (seats : Seats) (place : ℕ) (within : place < length seats) where
  -- some event is pending: somebody is there
  pub with_event : (next_key (node_at (seated seats) place).pending ≡ None → ⊥) → get_or seats place None ≡ None → ⊥
  with_event off none = off (ap (λ (n : NodeState). next_key n.pending) (nobody seats place within none) ∙ next_empty Event)

  -- an outgoing link
  pub with_link : (index : ℕ) → index < length (node_at (seated seats) place).part.links → get_or seats place None ≡ None → ⊥
  with_link index under none = let size : length (node_at (seated seats) place).part.links ≡ 0 = ap (λ (n : NodeState). length n.part.links) (nobody seats place within none) in omega (arith, under, size)

  pub seat_is : (node : NodeState) → get_or seats place None ≡ Some node → node ≡ node_at (seated seats) place
  seat_is node e = sym (seated_at seats place within ∙ ap (λ (o : Option NodeState). Rattle.std.specs.Option.unwrap_or o (absent place)) e)

  pub inside : place < length (seated seats)
  inside = subst (λ n. place < n) (sym (length-seated seats)) within

  pub set_at : (x : NodeState) → node_at (seated (set seats place (Some x))) place ≡ x
  set_at x = ap (λ (all : List NodeState). node_at all place) (seated_set seats place x) ∙ get_or-set_same (seated seats) place x no_node inside

  -- the others stay
  pub set_others : (x : NodeState) → seated (set seats place (Some x)) ≡ set (seated seats) place (node_at (seated (set seats place (Some x))) place)
  set_others x = seated_set seats place x ∙ ap (set (seated seats) place) (sym (set_at x))

  module _ (placed : IsPlaced (seated seats)) where
    -- a node has run its event
    module _ (node x : NodeState) (node_is : node ≡ node_at (seated seats) place) (out after : List (List Stamped)) (line : TraceLine) (has : HasFired node x out after line) where
      has_here : HasFired (node_at (seated seats) place) x out after line
      has_here = subst (λ (n : NodeState). HasFired n x out after line) node_is has

      pub placed_fired : IsPlaced (set (seated seats) place x)
      placed_fired = fired_placed (seated seats) placed place inside line.key line.event has_here.is_least x has_here.node

      pub has_fired : HasFired (node_at (seated seats) place) (node_at (seated (set seats place (Some x))) place) out after line
      has_fired = subst (λ (n : NodeState). HasFired (node_at (seated seats) place) n out after line) (sym (set_at x)) has_here

    -- packets have come to a node
    module _ (node x : NodeState) (node_is : node ≡ node_at (seated seats) place) (index : ℕ) (packets : List Stamped) (come : x ≡ delivered node index packets) where
      come_here : x ≡ delivered (node_at (seated seats) place) index packets
      come_here = come ∙ ap (λ (n : NodeState). delivered n index packets) node_is

      pub placed_come : IsPlaced (set (seated seats) place x)
      placed_come = come_placed (seated seats) placed place inside index packets x come_here

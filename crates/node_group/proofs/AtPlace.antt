-- The node at a place of a group's row is that of its number, and changes there.
use Rattle.std.proofs.Common.{◌≡◌, ℕ, ◌<◌, List, length, set, get_or, sym, ap, subst, ◌∙◌, Some, None}
use Rattle.std.proofs.lemmas.List.{length-set}
use Rattle.std.proofs.lemmas.Option.{slice_get-get_or}
use Rattle.std.specs.List.{slice_get}
use Rattle.packet_chain.specs.Stamped.{Stamped}
use Rattle.node_core.specs.TraceLine.{TraceLine}
use Rattle.node_core.specs.Node.{NodeState, delivered, HasFired}
use Rattle.net_machine.specs.Nodes.{no_node, node_at, IsPlaced}
use Rattle.node_group.specs.Seats.{Seats, seated, taken_nodes, number_at}
use Rattle.node_group.specs.Numbered.{seats_of, AreNodesByNumber}
use Rattle.node_group.proofs.Seated.{seated_set, taken_set}
use Rattle.node_group.proofs.AtSeats.{set_at, placed_fired, placed_come}
use Rattle.node_group.proofs.Numbered.{many, seat_at, node_among, seats_set, members_set}
use Rattle.node_group.proofs.InRow.{in_row, read_there}

module _ (nodes : List NodeState) (index : List ℕ) (is : AreNodesByNumber nodes index) (now : Seats) (view : seats_of nodes index ≡ now) (at : ℕ) (under : number_at now at < length now) where
  abbrev number : ℕ
  number = number_at now at

  sits : number < length (seats_of nodes index)
  sits = subst (λ (s : Seats). number < length s) (sym view) under

  within : number < length index
  within = subst (λ n. number < n) (many nodes index) sits

  pub inside : at < length nodes
  inside = in_row nodes index is now view at under

  read : at ≡ get_or index number (length nodes)
  read = read_there nodes index is now view at under

  there : get_or index number (length nodes) < length nodes
  there = subst (λ n. n < length nodes) read inside

  among : node_at nodes at ≡ node_at (seated (seats_of nodes index)) number
  among = ap (node_at nodes) read ∙ sym (node_among nodes index number within there)

  -- the node
  pub node_is : node_at nodes at ≡ node_at (seated now) number
  node_is = among ∙ ap (λ (s : Seats). node_at (seated s) number) view

  -- the seat
  taken_by : get_or now number None ≡ Some (node_at nodes at)
  taken_by =
      ap (λ (s : Seats). get_or s number None) (sym view)
      ∙ seat_at nodes index number within ∙ ap (slice_get nodes) (sym read)
      ∙ slice_get-get_or nodes at no_node inside

  -- ANOTHER NODE THERE

  module _ (x : NodeState) (new : List NodeState) (new_is : new ≡ set nodes at x) where
    pub seats_new : seats_of new index ≡ set now number (Some x)
    seats_new = ap (λ (ns : List NodeState). seats_of ns index) new_is ∙ seats_set nodes index is.placed number within at read inside x ∙ ap (λ (s : Seats). set s number (Some x)) view

    node_new : node_at (seated (seats_of new index)) number ≡ x
    node_new = ap (λ (s : Seats). node_at (seated s) number) seats_new ∙ set_at now number under x

    pub put_there : seats_of new index ≡ set now number (Some (node_at (seated (seats_of new index)) number))
    put_there = seats_new ∙ ap (λ (n : NodeState). set now number (Some n)) (sym node_new)

    pub same_count : length (seated (seats_of new index)) ≡ length (seated now)
    same_count = ap (λ (s : Seats). length (seated s)) seats_new ∙ ap length (seated_set now number x) ∙ length-set (seated now) number x

    pub same_seats : taken_nodes (seats_of new index) ≡ taken_nodes now
    same_seats = ap taken_nodes seats_new ∙ taken_set now number x (node_at nodes at) taken_by

    -- its nodes, where each node then sits at its number
    members_new : IsPlaced (set (seated (seats_of nodes index)) number x) → AreNodesByNumber new index
    members_new after = subst (λ (ns : List NodeState). AreNodesByNumber ns index) (sym new_is) (members_set nodes index is.placed number within at read inside x after is)

    -- it has run its event
    module _ (out after : List (List Stamped)) (line : TraceLine) (has : HasFired (node_at nodes at) x out after line) where
      pub members_fired : AreNodesByNumber new index
      members_fired = members_new (placed_fired (seats_of nodes index) number sits is.placed (node_at nodes at) x among out after line has)

      pub fired_there : HasFired (node_at (seated now) number) (node_at (seated (seats_of new index)) number) out after line
      fired_there = subst (λ (m : NodeState). HasFired (node_at (seated now) number) m out after line) (sym node_new) (subst (λ (m : NodeState). HasFired m x out after line) node_is has)

    -- packets have come to it
    module _ (entry : ℕ) (packets : List Stamped) (come : x ≡ delivered (node_at nodes at) entry packets) where
      pub members_come : AreNodesByNumber new index
      members_come = members_new (placed_come (seats_of nodes index) number sits is.placed (node_at nodes at) x among entry packets come)

      pub nodes_come : seated (seats_of new index) ≡ set (seated now) number (delivered (node_at (seated now) number) entry packets)
      nodes_come = ap seated seats_new ∙ seated_set now number x ∙ ap (set (seated now) number) (come ∙ ap (λ (m : NodeState). delivered m entry packets) node_is)

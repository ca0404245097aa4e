-- A group stays one of its net while its nodes' links stay the ones they are, and each link's packets are where they belong.
use Rattle.std.proofs.Common.{◌≡◌, ◌≢◌, ℕ, ◌+◌, ◌<◌, ◌≤◌, ◌==◌, Bool, true, List, length, get_or, refl, sym, ap, subst, ◌∙◌, Some, None, Option, is_some, ⊎_elim, arith, eqb-true}
use Rattle.std.proofs.lemmas.Bool.{cases_lt}
use Rattle.std.proofs.lemmas.List.{length-map, get_or_past, get_or-map}
use Rattle.sim_time.specs.declared.limits.TheConstants.{MOST_EVENTS}
use Rattle.tournament.specs.Keyed.{EachKey}
use Rattle.node_core.specs.Node.{NodeState}
use Rattle.node_core.specs.TraceLine.{TraceLine}
use Rattle.node_core.specs.WireState.{WireState, came_over}
use Rattle.net_machine.specs.Nodes.{no_node, net_pending, IsPlaced}
use Rattle.net_machine.specs.Wiring.{ends_at, place_at}
use Rattle.table_run.proofs.Ready.{IsSameLink}
use Rattle.net_partition.specs.Partition.{group_in}
use Rattle.node_group.specs.Seats.{Seats, seated, taken_nodes}
use Rattle.node_group.specs.Held.{wire_at, AreByLink}
use Rattle.node_group.specs.Group.{GroupValue, group_to, member, exit_at, came_in, IsOwnEntry, IsGroup}
use Rattle.node_group.proofs.Seated.{length-seated}
use Rattle.node_group.proofs.AtSeats.{with_link}

module _ (g : GroupValue) (is : IsGroup g) where
  -- as many seats as nodes
  pub seat_count : length g.seats ≡ length g.entries
  seat_count = sym (length-map g.seats (λ (s : Option NodeState). is_some s)) ∙ ap length is.seats_are ∙ length-map g.entries (λ entry. entry == g.number)

  -- a seat is taken exactly where the node is the group's
  pub seat_taken : (node : ℕ) → node < length g.seats → is_some (get_or g.seats node None) ≡ (group_in g.entries node == g.number)
  seat_taken node under =
      sym (get_or-map (λ (s : Option NodeState). is_some s) g.seats node None true under)
      ∙ ap (λ (all : List Bool). get_or all node true) is.seats_are
      ∙ get_or-map (λ entry. entry == g.number) g.entries node 0 true (let size = seat_count in omega (arith, under, size))

  -- a node with an outgoing link is the group's
  pub own_exit : (node index : ℕ) → index < length (member g node).part.links → group_in g.entries node ≡ g.number
  own_exit node index under =
      ⊎_elim
      (λ (inside : node < length g.seats).
      eqb-true (group_in g.entries node) g.number (sym (seat_taken node inside) ∙ there (get_or g.seats node None) (with_link g.seats node inside index under)))
      (λ (past : length g.seats ≤ node).
      let size = length-seated g.seats in
      let none : length (member g node).part.links ≡ 0 = ap (λ (n : NodeState). length n.part.links) (get_or_past (seated g.seats) node no_node (omega (arith, past, size))) in
      absurd (omega (arith, under, none)))
      (cases_lt node (length g.seats))
    where
      there : (o : Option NodeState) → (o ≡ None → ⊥) → is_some o ≡ true
      there None off = absurd (off refl)
      there (Some n) off = refl

  -- an outgoing link is known by its number
  pub same_exit : (a i b j : ℕ) → i < length (member g a).part.links → j < length (member g b).part.links → (exit_at g a i).port.link ≡ (exit_at g b j).port.link → (a ≡ b) × (i ≡ j)
  same_exit a i b j under_a under_b same =
      let node : a ≡ b = sym (is.exits a i under_a).from_here ∙ ap (λ n. (ends_at g.links n).from) same ∙ (is.exits b j under_b).from_here in
      (node, (is.exits b j under_b).once i (subst (λ n. i < length (member g n).part.links) node under_a) (ap (λ n. (exit_at g n i).port.link) (sym node) ∙ same))

  -- and so is where one ends inside the group
  pub same_entry : (a b : ℕ) → a < length g.links → b < length g.links → group_to g a ≡ g.number → group_to g b ≡ g.number → (place_at g.links a).node ≡ (place_at g.links b).node → (place_at g.links a).index ≡ (place_at g.links b).index → a ≡ b
  same_entry a b under_a under_b own_a own_b node index =
      sym (is.entries_are a under_a own_a).over
      ∙ (λ i. (Rattle.node_core.specs.EventQueueState.incoming_at (member g (node i)).incoming (index i)).link)
      ∙ (is.entries_are b under_b own_b).over

  module _ (seats : Seats) (held : List WireState) (lines : List TraceLine) where
    abbrev pub new : GroupValue
    new = record g { seats = seats; held = held; lines = lines }

    -- what a link has sent has come, or is an outgoing message
    pub record IsBalanced (node index : ℕ) : Type 0 where
      pub inside : group_to g (exit_at g node index).port.link ≡ g.number → came_in new (exit_at g node index).port.link ≡ (exit_at new node index).port.sent
      pub across : group_to g (exit_at g node index).port.link ≢ g.number → came_over (wire_at held (exit_at g node index).port.link) ≡ (exit_at new node index).port.sent

    pub record AreKept : Type 0 where
      pub same_seats : taken_nodes seats ≡ taken_nodes g.seats
      pub placed : IsPlaced (seated seats)
      pub count : (node : ℕ) → length (member new node).part.links ≡ length (member g node).part.links
      pub same : (node index : ℕ) → IsSameLink (exit_at g node index) (exit_at new node index)
      pub balanced : (node index : ℕ) → index < length (member g node).part.links → IsBalanced node index
      pub entries : (link : ℕ) → link < length g.links → group_to g link ≡ g.number → IsOwnEntry new link
      pub counted : (link : ℕ) → link < length g.links → EachKey (λ k. k.source ≡ link + 1 → k.number ≤ came_in new link) (net_pending (seated seats))
      pub wires : length held ≡ length g.held
      pub by_link : AreByLink held
      pub there : (link : ℕ) → (wire_at held link).node ≡ (wire_at g.held link).node
      pub fits : g.position + length lines ≤ MOST_EVENTS

    pub kept : AreKept → IsGroup new
    kept k = record {
      seats_are = k.same_seats ∙ is.seats_are;
      placed = k.placed;
      few = λ node. subst (λ n. n ≤ 16) (sym (k.count node)) (is.few node);
      ends_known = is.ends_known;
      exits = λ node index under.
          let within = subst (λ n. index < n) (k.count node) under in
          let old = is.exits node index within in
          let number = (k.same node index).same_number in
          record {
            known = subst (λ n. n < length g.links) (sym number) old.known;
            from_here = ap (λ n. (ends_at g.links n).from) number ∙ old.from_here;
            to_there = (k.same node index).same_to ∙ old.to_there ∙ ap (λ n. (place_at g.links n).node) (sym number);
            once = λ other under_other same. old.once other (subst (λ n. other < n) (k.count node) under_other) (sym (k.same node other).same_number ∙ same ∙ number);
            inside = λ own. ap (came_in new) number ∙ (k.balanced node index within).inside (ap (group_to g) (sym number) ∙ own);
            across = λ off. ap (λ n. came_over (wire_at held n)) number ∙ (k.balanced node index within).across (λ own. off (ap (group_to g) number ∙ own));
          };
      entries_are = k.entries;
      counted = k.counted;
      wires = k.wires ∙ is.wires;
      by_link = k.by_link;
      ends_there = λ link under. k.there link ∙ is.ends_there link under;
      fits = k.fits;
    }

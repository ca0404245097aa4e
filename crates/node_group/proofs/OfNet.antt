-- A net split into groups: each group state is a group of it, and together they hold its state.
use Rattle.std.proofs.Common.{◌≡◌, ◌≢◌, ℕ, ◌+◌, ◌<◌, ◌≤◌, ◌==◌, Bool, true, false, cond, List, [], length, map, replicate, refl, sym, ap, subst, ◌∙◌, Some, None, Option, is_some, ⊎_elim, arith, eq-eqb, eqb-true}
use Rattle.std.proofs.lemmas.Bool.{cases_eq, cases_lt, ne_eqb}
use Rattle.std.proofs.lemmas.List.{length-map, get_or_past, get_or-map, ext_get_or}
use Rattle.std.proofs.Math.ListN.{get_or-map as get_or_each}
use Rattle.std.specs.Option.{unwrap_or}
use Rattle.std.specs.FinMap.{get, get-empty}
use Rattle.sim_time.specs.declared.key.Key.{Key}
use Rattle.scenario_image.specs.declared.parts.LinkPart.{LinkPart}
use Rattle.scenario_image.specs.declared.parts.ScenarioParts.{ScenarioParts}
use Rattle.tournament.specs.Keyed.{nothing_due, EachKey}
use Rattle.tournament.proofs.Gathered.{get-gathered, none-gathered}
use Rattle.tournament.proofs.Maps.{not_some}
use Rattle.node_core.specs.declared.event.Event.{Event}
use Rattle.node_core.specs.Pending.{Events}
use Rattle.node_core.specs.EventQueueState.{Incoming, incoming_at}
use Rattle.node_core.specs.Part.{LinkState, PartState, link_at}
use Rattle.node_core.specs.Node.{NodeState}
use Rattle.node_core.specs.WireState.{WireState, pending_on, came_over}
use Rattle.node_core.specs.declared.event.Event.TheVariants.{Start, Rto, DelAck, Free, Arrive}
use Rattle.table_run.specs.State.{State, part_at}
use Rattle.table_run.specs.Sound.{Belongs}
use Rattle.table_run.specs.Laws.{IsSoundRun}
use Rattle.table_run.proofs.RunLaws.{sound_run}
use Rattle.std.proofs.lemmas.Option.{get_or_from_slice_get}
use Rattle.net_machine.specs.declared.places.LinkEnds.{LinkEnds}
use Rattle.net_machine.specs.Nodes.{no_node, node_at, net_pending, pendings, net_state, IsPlaced}
use Rattle.net_machine.specs.Wiring.{no_link_part, link_part, from_of, exit_of, leaving_at, coming_at, link_ends, ends_at, place_at, IsNetWire}
use Rattle.net_machine.specs.NetOf.{IsNet, AreNetParts}
use Rattle.net_machine.proofs.Joined.{net_of}
use Rattle.net_machine.proofs.AtNodes.{pending_at}
use Rattle.net_partition.specs.Partition.{group_in}
use Rattle.node_group.specs.Seats.{Seats, absent, seated, taken_nodes}
use Rattle.node_group.specs.Held.{no_wire, held_on}
use Rattle.node_group.specs.Group.{GroupValue, group_to, member, exit_at, entry_at, came_in, IsGroup, IsOwnExit}
use Rattle.node_group.specs.GroupStates.{AreSeatsOf, AreIdle, idle_wire}
use Rattle.node_group.proofs.Seated.{length-seated, seated_at}

module _ (entries : List ℕ) (number : ℕ) (nodes : List NodeState) (seats : Seats) (are : AreSeatsOf entries number nodes seats) where
  -- a node of the group has its seat
  pub mine : (i : ℕ) → i < length entries → group_in entries i ≡ number → node_at (seated seats) i ≡ node_at nodes i
  mine i under own =
      let size = are.count in
      seated_at seats i (omega (arith, under, size)) ∙ ap (λ (o : Option NodeState). unwrap_or o (absent i)) (are.each_seat i under ∙ ap (λ b. cond b (Some (node_at nodes i)) None) (eq-eqb (group_in entries i) number own))

  pub not_mine : (i : ℕ) → i < length entries → group_in entries i ≢ number → node_at (seated seats) i ≡ absent i
  not_mine i under off =
      let size = are.count in
      seated_at seats i (omega (arith, under, size)) ∙ ap (λ (o : Option NodeState). unwrap_or o (absent i)) (are.each_seat i under ∙ ap (λ b. cond b (Some (node_at nodes i)) None) (ne_eqb (group_in entries i) number off))

  pub past_seats : (i : ℕ) → length entries ≤ i → node_at (seated seats) i ≡ no_node
  past_seats i past = let size = are.count in let all = length-seated seats in get_or_past (seated seats) i no_node (omega (arith, past, size, all))

  -- what is so of each seat
  pub at_seat : (P : ℕ → NodeState → Type 0) → ((i : ℕ) → i < length entries → group_in entries i ≡ number → P i (node_at nodes i)) → ((i : ℕ) → i < length entries → group_in entries i ≢ number → P i (absent i)) → ((i : ℕ) → length entries ≤ i → P i no_node) → (i : ℕ) → P i (node_at (seated seats) i)
  at_seat P here there beyond i =
      ⊎_elim
      (λ (under : i < length entries).
      ⊎_elim
      (λ (own : group_in entries i ≡ number). subst (P i) (sym (mine i under own)) (here i under own))
      (λ (off : group_in entries i ≢ number). subst (P i) (sym (not_mine i under off)) (there i under off))
      (cases_eq (group_in entries i) number))
      (λ (past : length entries ≤ i). subst (P i) (sym (past_seats i past)) (beyond i past))
      (cases_lt i (length entries))

  pub seats_taken : taken_nodes seats ≡ map (λ entry. entry == number) entries
  seats_taken =
      ext_get_or false (taken_nodes seats) (map (λ entry. entry == number) entries)
      (length-map seats (λ (s : Option NodeState). is_some s) ∙ are.count ∙ sym (length-map entries (λ entry. entry == number)))
      (λ i under.
      let size = are.count in
      let long = length-map seats (λ (s : Option NodeState). is_some s) in
      let inside : i < length entries = omega (arith, under, size, long) in
      get_or-map (λ (s : Option NodeState). is_some s) seats i None false (omega (arith, inside, size))
      ∙ ap is_some (are.each_seat i inside) ∙ seat (group_in entries i == number) (node_at nodes i)
      ∙ sym (get_or-map (λ entry. entry == number) entries i 0 false inside))
    where
      seat : (b : Bool) (n : NodeState) → is_some (cond b (Some n) None) ≡ b
      seat true n = refl
      seat false n = refl

  module _ (placed : IsPlaced nodes) (size : length entries ≡ length nodes) where
    empty : (P : Key → Type 0) → EachKey P (nothing_due Event)
    empty P k v there = absurd (not_some (sym (get-empty _ k) ∙ there))

    pub placed_seats : IsPlaced (seated seats)
    placed_seats = record {
      number = λ i under.
          let all = length-seated seats in
          let many = are.count in
          at_seat (λ j (n : NodeState). j < length entries → n.number ≡ j) (λ j here own _. placed.number j (omega (arith, here, size))) (λ j _ _ _. refl) (λ j past here. omega (arith, past, here)) i (omega (arith, under, all, many));
      at_home = λ i. subst (EachKey (λ k. k.node ≡ i)) (sym (pending_at (seated seats) i))
          (at_seat (λ j (n : NodeState). EachKey (λ k. k.node ≡ j) n.pending)
          (λ j here own. subst (EachKey (λ k. k.node ≡ j)) (pending_at nodes j) (placed.at_home j))
          (λ j _ _. empty (λ k. k.node ≡ j)) (λ j _. empty (λ k. k.node ≡ j)) i);
    }

    -- what is pending at the group's nodes is what is pending there in the net
    pub pending_mine : (k : Key) → get (net_pending (seated seats)) k ≡ cond (group_in entries k.node == number) (get (net_pending nodes) k) None
    pending_mine k =
        get-gathered (λ q. q.node) (pendings (seated seats)) placed_seats.at_home k
        ∙ ap (λ (m : Events). get m k) (pending_at (seated seats) k.node)
        ∙ at_seat (λ j (n : NodeState). j ≡ k.node → get n.pending k ≡ cond (group_in entries k.node == number) (get (net_pending nodes) k) None)
        (λ j here own at.
        ap (λ n. get (node_at nodes n).pending k) at
        ∙ sym (get-gathered (λ q. q.node) (pendings nodes) placed.at_home k ∙ ap (λ (m : Events). get m k) (pending_at nodes k.node))
        ∙ sym (ap (λ b. cond b (get (net_pending nodes) k) None) (eq-eqb (group_in entries k.node) number (ap (group_in entries) (sym at) ∙ own))))
        nobody beyond k.node refl
      where
        nobody : (j : ℕ) → j < length entries → group_in entries j ≢ number → j ≡ k.node → get (nothing_due Event) k ≡ cond (group_in entries k.node == number) (get (net_pending nodes) k) None
        nobody j under off at = get-empty _ k ∙ sym (ap (λ b. cond b (get (net_pending nodes) k) None) (ne_eqb (group_in entries k.node) number (λ own. off (ap (group_in entries) at ∙ own))))

        either : (b : Bool) (o : Option Event) → o ≡ None → None ≡ cond b o None
        either true o none = sym none
        either false o none = refl

        beyond : (j : ℕ) → length entries ≤ j → j ≡ k.node → get (nothing_due Event) k ≡ cond (group_in entries k.node == number) (get (net_pending nodes) k) None
        beyond j past at =
            get-empty _ k
            ∙ either (group_in entries k.node == number) (get (net_pending nodes) k)
            (get-gathered (λ q. q.node) (pendings nodes) placed.at_home k ∙ ap (λ (m : Events). get m k) (pending_at nodes k.node)
            ∙ ap (λ (n : NodeState). get n.pending k) (get_or_past nodes k.node no_node (omega (arith, past, at, size))) ∙ get-empty _ k)

-- there is no outgoing message over idle wires
pub idle_none : (links : List LinkEnds) (nodes : List NodeState) (held : List WireState) → AreIdle links nodes held → held_on held ≡ nothing_due Event
idle_none links nodes held idle = none-gathered (map pending_on held) (λ i.
    ⊎_elim
    (λ (under : i < length held).
    let size = idle.count in
    get_or-map pending_on held i no_wire (nothing_due Event) under ∙ ap pending_on (idle.each_wire i (omega (arith, under, size))))
    (λ (past : length held ≤ i). let long = length-map held pending_on in get_or_past (map pending_on held) i (nothing_due Event) (omega (arith, past, long)))
    (cases_lt i (length held)))

module _ (nodes : List NodeState) (links : List LinkEnds) (end position : ℕ) (net : AreNetParts nodes links end position) (entries : List ℕ) (size : length entries ≡ length nodes) where
  pub is_net : IsNet nodes links (replicate 16 []) end position
  is_net = net_of nodes links end position net (replicate 16 []) refl

  abbrev pub parts : List LinkPart
  parts = is_net.run.scenario.links

  pub known : (link : ℕ) → link < length links → link < length parts
  known link under = subst (λ n. link < n) is_net.ends_are.size under

  pub ends_are : (link : ℕ) → link < length links → ends_at links link ≡ link_ends parts link
  ends_are link under = is_net.ends_are.each_link link (known link under)

  pub coming_is : (link : ℕ) → link < length links → incoming_at (node_at nodes (place_at links link).node).incoming (place_at links link).index ≡ coming_at parts nodes link
  coming_is link under = ap (λ (e : LinkEnds). incoming_at (node_at nodes e.to.node).incoming e.to.index) (ends_are link under)

  pub wire : (link : ℕ) → link < length links → IsNetWire parts nodes link
  wire link under = is_net.wired.wires link (known link under)

  pub end_inside : (link : ℕ) → link < length links → (place_at links link).node < length entries
  end_inside link under = let within = (wire link under).within in let to = ap (λ (e : LinkEnds). e.to.node) (ends_are link under) in omega (arith, within, to, size)

  abbrev pub scenario : ScenarioParts
  scenario = is_net.run.scenario

  abbrev pub state : State
  state = net_state nodes end

  pub sound : IsSoundRun scenario is_net.run.lines state
  sound = sound_run scenario position is_net.run.lines state is_net.run.is_scenario is_net.run.is

  pub part_is : (node : ℕ) → part_at state node ≡ (node_at nodes node).part
  part_is node = get_or_each (λ (n : NodeState). n.part) nodes node no_node

  -- what is pending over a link in the net is counted at its end, which is where it is pending
  pub record IsComing (k : Key) (link : ℕ) : Type 0 where
    pub at_end : (place_at links link).node ≡ k.node
    pub counted : k.number ≤ (incoming_at (node_at nodes (place_at links link).node).incoming (place_at links link).index).came

  coming : (k : Key) (v : Event) → get (net_pending nodes) k ≡ Some v → (link : ℕ) → link < length links → k.source ≡ link + 1 → IsComing k link
  coming k v there link under source = by v (sound.sound.belongs k v there)
    where
      zero_source : k.source ≡ 0 → IsComing k link
      zero_source none = absurd (let no : ⊥ = omega (arith, none, source) in no)

      by : (w : Event) → Belongs scenario state sound.moment k w → IsComing k link
      by (Start j) h = zero_source (ap (λ (q : Key). q.source) h.is_key)
      by (Rto j) h = zero_source (ap (λ (q : Key). q.source) h.timer.is_key)
      by (DelAck j) h = zero_source (ap (λ (q : Key). q.source) h.timer.is_key)
      by (Free j) h = zero_source (ap (λ (q : Key). q.source) h.timer.is_key)
      by (Arrive x) h =
          let number : h.number ≡ link = (let over = h.comes_over in omega (arith, over, source)) in
          let within : h.index < length (node_at nodes h.link.from).part.links = subst (λ (p : PartState). h.index < length p.links) (part_is h.link.from) h.leaves.within in
          let is : (link_at (node_at nodes h.link.from).part.links h.index).port.link ≡ link = ap (λ (p : PartState). (link_at p.links h.index).port.link) (sym (part_is h.link.from)) ∙ h.leaves.its_number ∙ number in
          let exit = is_net.wired.exits h.link.from h.index within in
          let from : from_of parts link ≡ h.link.from = ap (from_of parts) (sym is) ∙ exit.from_here in
          let index : exit_of parts link ≡ h.index = ap (exit_of parts) (sym is) ∙ exit.exit_here in
          let leaving : (leaving_at parts nodes link).port.sent ≡ (link_at (part_at state h.link.from).links h.index).port.sent =
          (λ i. (link_at (node_at nodes (from i)).part.links (index i)).port.sent) ∙ ap (λ (p : PartState). (link_at p.links h.index).port.sent) (sym (part_is h.link.from)) in
          let came = ap (λ (c : Incoming). c.came) (coming_is link under) ∙ (wire link under).came ∙ leaving in
          let sent = h.was_sent in
          record {
            at_end = ap (λ (e : LinkEnds). e.to.node) (ends_are link under) ∙ ap (λ n. (link_part parts n).to) (sym number) ∙ ap (λ (l : LinkPart). l.to) (get_or_from_slice_get parts h.number h.link no_link_part h.its_link) ∙ sym h.ends_here;
            counted = omega (arith, came, sent);
          }

  module _ (number until : ℕ) (seats : Seats) (held : List WireState) (are : AreSeatsOf entries number nodes seats) (idle : AreIdle links nodes held) where
    abbrev g : GroupValue
    g = record { number = number; entries = entries; links = links; seats = seats; held = held; lines = []; until = until; position = position }

    exit_mine : (node index : ℕ) → index < length (member g node).part.links → member g node ≡ node_at nodes node
    exit_mine = at_seat entries number nodes seats are (λ j (n : NodeState). (index : ℕ) → index < length n.part.links → n ≡ node_at nodes j)
        (λ j here own index under. refl) (λ j here off index under. absurd (omega (arith, under))) (λ j past index under. absurd (omega (arith, under)))

    end_mine : (link : ℕ) → link < length links → group_to g link ≡ number → member g (place_at links link).node ≡ node_at nodes (place_at links link).node
    end_mine link under own = mine entries number nodes seats are (place_at links link).node (end_inside link under) own

    came_mine : (link : ℕ) → link < length links → group_to g link ≡ number → entry_at g link ≡ coming_at parts nodes link
    came_mine link under own = ap (λ (n : NodeState). incoming_at n.incoming (place_at links link).index) (end_mine link under own) ∙ coming_is link under

    module _ (node index : ℕ) (under : index < length (member g node).part.links) where
      at : exit_at g node index ≡ link_at (node_at nodes node).part.links index
      at = ap (λ (n : NodeState). link_at n.part.links index) (exit_mine node index under)

      within : index < length (node_at nodes node).part.links
      within = subst (λ (n : NodeState). index < length n.part.links) (exit_mine node index under) under

      abbrev link : ℕ
      link = (exit_at g node index).port.link

      link_is : link ≡ (link_at (node_at nodes node).part.links index).port.link
      link_is = ap (λ (l : LinkState). l.port.link) at

      exit_known : link < length links
      exit_known = subst (λ n. n < length links) (sym link_is) (subst (λ n. (link_at (node_at nodes node).part.links index).port.link < n) (sym is_net.ends_are.size) (is_net.wired.exits node index within).known)

      from_is : from_of parts link ≡ node
      from_is = ap (from_of parts) link_is ∙ (is_net.wired.exits node index within).from_here

      index_is : exit_of parts link ≡ index
      index_is = ap (exit_of parts) link_is ∙ (is_net.wired.exits node index within).exit_here

      leaving_is : leaving_at parts nodes link ≡ exit_at g node index
      leaving_is = (λ i. link_at (node_at nodes (from_is i)).part.links (index_is i)) ∙ sym at

      sent_is : (coming_at parts nodes link).came ≡ (exit_at g node index).port.sent
      sent_is = (wire link exit_known).came ∙ ap (λ (l : LinkState). l.port.sent) leaving_is

      own_exit_is : ((other : ℕ) → other < length (member g node).part.links → (exit_at g node other).port.link ≡ link → other ≡ index) → IsOwnExit g node index
      own_exit_is once = record {
        known = exit_known;
        from_here = ap (λ (e : LinkEnds). e.from) (ends_are link exit_known) ∙ from_is;
        to_there = ap (λ (l : LinkState). l.to) (sym leaving_is) ∙ (wire link exit_known).ends ∙ sym (ap (λ (e : LinkEnds). e.to.node) (ends_are link exit_known));
        once = once;
        inside = λ own. ap (λ (c : Incoming). c.came) (came_mine link exit_known own) ∙ sent_is;
        across = λ off.
            let none : came_over (idle_wire links nodes link) ≡ (idle_wire links nodes link).taken = omega arith in
            ap came_over (idle.each_wire link exit_known) ∙ none ∙ ap (λ (c : Incoming). c.came) (coming_is link exit_known) ∙ sent_is;
      }

    counted_mine : (link : ℕ) → link < length links → EachKey (λ k. k.source ≡ link + 1 → k.number ≤ came_in g link) (net_pending (seated seats))
    counted_mine link under k v there source = by (group_in entries k.node == number) refl
      where
        by : (b : Bool) → (group_in entries k.node == number) ≡ b → k.number ≤ came_in g link
        by true own =
            let pending : get (net_pending nodes) k ≡ Some v = sym (ap (λ b. cond b (get (net_pending nodes) k) None) own) ∙ sym (pending_mine entries number nodes seats are is_net.placed size k) ∙ there in
            let c = coming k v pending link under source in
            let own_end : group_to g link ≡ number = ap (group_in entries) c.at_end ∙ eqb-true (group_in entries k.node) number own in
            subst (λ (n : NodeState). k.number ≤ (incoming_at n.incoming (place_at links link).index).came) (sym (end_mine link under own_end)) c.counted
        by false off = absurd (not_some (sym (ap (λ b. cond b (get (net_pending nodes) k) None) off) ∙ sym (pending_mine entries number nodes seats are is_net.placed size k) ∙ there))

    -- the group state is a group
    pub group_state_is_group : IsGroup g
    group_state_is_group = record {
      seats_are = seats_taken entries number nodes seats are;
      placed = placed_seats entries number nodes seats are is_net.placed size;
      few = at_seat entries number nodes seats are (λ j (n : NodeState). length n.part.links ≤ 16) (λ j here own. is_net.wired.few j) (λ j here off. omega arith) (λ j past. omega arith);
      ends_known = end_inside;
      exits = λ node index under. own_exit_is node index under (λ other under_other same. sym (index_is node other under_other) ∙ ap (exit_of parts) same ∙ index_is node index under);
      entries_are = λ link under own. record {
        within = subst (λ (n : NodeState). (place_at links link).index < length n.incoming) (sym (end_mine link under own))
            (subst (λ (e : LinkEnds). e.to.index < length (node_at nodes e.to.node).incoming) (sym (ends_are link under)) (wire link under).entry);
        over = ap (λ (c : Incoming). c.link) (came_mine link under own) ∙ (wire link under).over;
      };
      counted = counted_mine;
      wires = idle.count;
      by_link = λ link under. ap (λ (w : WireState). w.link) (idle.each_wire link (subst (λ n. link < n) idle.count under));
      ends_there = λ link under. ap (λ (w : WireState). w.node) (idle.each_wire link under);
      fits = (let most = is_net.run.position_fits in omega (arith, most));
    }

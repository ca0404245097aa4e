-- Groups that have not fired in a window, put together, are the net at its edge.
use Rattle.std.proofs.Common.{◌≡◌, ◌≢◌, ℕ, ◌+◌, ◌<◌, ◌≤◌, cond, List, [], ◌∷◌, length, map, get_or, true, None, refl, sym, ap, subst, ◌∙◌, ⊎_elim, arith, eq-eqb, ext_get_or}
use Rattle.std.proofs.lemmas.Bool.{cases_lt, cases_eq}
use Rattle.std.proofs.lemmas.List.{length-map, get_or_past}
use Rattle.std.proofs.Math.ListN.{get_or-map as get_or_each}
use Rattle.std.specs.FinMap.{get, get-empty, get-from_entries}
use Rattle.sim_time.proofs.Order.{keys_total}
use Rattle.packet_chain.specs.Stamped.{Stamped}
use Rattle.scenario_image.specs.declared.parts.ScenarioParts.{ScenarioParts}
use Rattle.tournament.specs.Keyed.{nothing_due, EachKey}
use Rattle.tournament.specs.Gathered.{map_at, AtHome}
use Rattle.tournament.proofs.Gathered.{get-gathered}
use Rattle.tournament.proofs.Maps.{not_some, same_at}
use Rattle.node_core.specs.declared.event.Event.{Event}
use Rattle.node_core.specs.EventQueueState.{Incoming, incoming_at}
use Rattle.node_core.specs.Timers.{arrival_key}
use Rattle.node_core.specs.Node.{NodeState}
use Rattle.node_core.specs.Part.{LinkState, PartState, link_at}
use Rattle.node_core.specs.Pending.{Events}
use Rattle.node_core.specs.WireState.{WireState, arrivals_on, pending_on, stamps_of, came_over}
use Rattle.table_run.specs.State.{State, no_part, part_at}
use Rattle.table_run.specs.Laws.{ComesTo}
use Rattle.net_machine.specs.declared.places.LinkEnds.{LinkEnds}
use Rattle.net_machine.specs.declared.places.EndPlace.{EndPlace}
use Rattle.net_machine.specs.NetOf.{AreNetParts}
use Rattle.net_machine.specs.Nodes.{no_node, node_at, pendings, net_pending, parts_of, net_state}
use Rattle.net_machine.specs.Wiring.{from_of, exit_of, to_of, entry_of, leaving_at, coming_at, link_ends, ends_at, place_at, IsJoined}
use Rattle.net_machine.proofs.AtNodes.{pending_at}
use Rattle.node_group.specs.Group.{GroupValue, state_of, member, exit_at, entry_at, came_in, group_to, IsGroup}
use Rattle.window_law.specs.Groups.{GroupState, group_at}
use Rattle.node_group.specs.Held.{wire_at, held_on, AreByLink}
use Rattle.net_partition.specs.Partition.{group_in}
use Rattle.node_group.specs.Seats.{seated}
use Rattle.window_law.specs.Standing.{Stands}
use Rattle.window_core.specs.Together.{group_with, AreSeated, AreTogether}
use Rattle.window_core.specs.Window.{WindowValue, value_at, states_of, machine_of, leaves_from, comes_to, IsFrom, IsWindow}
use Rattle.window_law.specs.Windows.{none_fired, setting_of}
use Rattle.window_law.proofs.Calls.{unfired_stand}
use Rattle.window_core.proofs.EndOfWindow.{packet_at}
use Rattle.window_law.proofs.EveryRun.{same_end}
use Rattle.node_group.proofs.GroupKept.{seat_count, seat_taken}
use Rattle.node_group.proofs.HeldBack.{over_link, held_home, wire_map}
use Rattle.window_core.proofs.Leaving.{exit_there}
use Rattle.node_group.proofs.Seated.{length-seated}
use Rattle.window_core.proofs.Windowed.{state_at, group_below}

-- where there is no outgoing message nothing is under way
module _ (held : List WireState) (by_link : AreByLink held) (none : held_on held ≡ nothing_due Event) (link : ℕ) (under : link < length held) where
  abbrev w : WireState
  w = wire_at held link

  no_packet : (j : ℕ) → j < length (stamps_of w.under_way) → ⊥
  no_packet j below =
      let a = packet_at w.node w.link w.taken w.under_way j 0 below in
      let key = arrival_key w.node w.link (get_or (stamps_of w.under_way) j 0) (w.taken + 1 + j) in
      let over : over_link key ≡ link = (let number = by_link link under in omega (arith, number)) in
      not_some
      (sym (get-empty _ key)
      ∙ ap (λ (m : Events). get m key) (sym none)
      ∙ get-gathered over_link (map pending_on held) (held_home held by_link) key
      ∙ ap (λ l. get (map_at (map pending_on held) l) key) over
      ∙ ap (λ (m : Events). get m key) (wire_map held link under)
      ∙ get-from_entries keys_total (arrivals_on w) key
      ∙ a.found)

  none_of : (q : List Stamped) → ((j : ℕ) → j < length (stamps_of q) → ⊥) → q ≡ []
  none_of [] off = refl
  none_of (a ∷ q) off = absurd (off 0 (omega arith))

  nothing_under_way : w.under_way ≡ []
  nothing_under_way = none_of w.under_way no_packet

module _ (v : WindowValue) (is : IsWindow v) (are : (h : ℕ) → h < length v.groups → IsGroup (value_at v.groups h)) where
  abbrev group : ℕ → ℕ
  group = group_in v.entries

  in_range : (node : ℕ) → group node < length v.groups
  in_range node = let below = group_below v.entries node in let count = is.split.count in omega (arith, below, count)

  abbrev with_node : ℕ → GroupValue
  with_node = group_with v.entries v.groups

  its_entries : (node : ℕ) → (with_node node).entries ≡ v.entries
  its_entries node = (is.split.parts (group node) (in_range node)).entries_are

  its_number : (node : ℕ) → (with_node node).number ≡ group node
  its_number node = (is.split.parts (group node) (in_range node)).number_is

  its_links : (node : ℕ) → (with_node node).links ≡ v.links
  its_links node = (is.split.parts (group node) (in_range node)).links_are

  sizes : (node : ℕ) → length (with_node node).seats ≡ length v.entries
  sizes node = seat_count (with_node node) (are (group node) (in_range node)) ∙ ap length (its_entries node)

  pub are_seated : AreSeated v.entries v.groups
  are_seated = record {
    few = in_range;
    sizes = sizes;
    each_seat = λ node under.
        let size = sizes node in
        seat_taken (with_node node) (are (group node) (in_range node)) node (omega (arith, under, size))
        ∙ eq-eqb (group_in (with_node node).entries node) (with_node node).number (ap (λ (entries : List ℕ). group_in entries node) (its_entries node) ∙ sym (its_number node));
  }

  module _ (none : none_fired (states_of v.groups) ≡ true) (nodes : List NodeState) (together : AreTogether v.entries v.groups (length v.entries) nodes) where
    node_is : (node : ℕ) → node_at nodes node ≡ member (with_node node) node
    node_is node =
        ⊎_elim
        (λ (under : node < length v.entries). together.each_node node under)
        (λ (past : length v.entries ≤ node).
        let size = together.size in
        let many = sizes node in
        let all = length-seated (with_node node).seats in
        get_or_past nodes node no_node (omega (arith, past, size)) ∙ sym (get_or_past (seated (with_node node).seats) node no_node (omega (arith, past, many, all))))
        (cases_lt node (length v.entries))

    home_of : (node : ℕ) → AtHome (λ k. k.node) (pendings (seated (with_node node).seats))
    home_of node = (are (group node) (in_range node)).placed.at_home

    at_home : AtHome (λ k. k.node) (pendings nodes)
    at_home i =
        subst (EachKey (λ k. k.node ≡ i)) (pending_at (seated (with_node i).seats) i ∙ sym (pending_at nodes i ∙ ap (λ (n : NodeState). n.pending) (node_is i))) (home_of i i)

    module _ (edge : State) (from : IsFrom edge v) where
      abbrev p : ScenarioParts
      p = from.scenario

      stands : Stands group edge (states_of v.groups)
      stands = unfired_stand (setting_of group p) edge (machine_of v) from.in_run.is_open none

      state_with : (node : ℕ) → group_at (states_of v.groups) (group node) ≡ state_of (with_node node)
      state_with node = state_at v.groups (group node) (in_range node)

      part_is : (node : ℕ) → part_at edge node ≡ (member (with_node node) node).part
      part_is node =
          stands.parts node
          ∙ ap (λ (g : GroupState). get_or g.parts node no_part) (state_with node)
          ∙ get_or_each (λ (n : NodeState). n.part) (seated (with_node node).seats) node no_node

      many : length nodes ≡ length edge.parts
      many =
          together.size ∙ sym (sizes 0) ∙ sym (length-seated (with_node 0).seats)
          ∙ sym (length-map (seated (with_node 0).seats) (λ (n : NodeState). n.part))
          ∙ ap (λ (g : GroupState). length g.parts) (sym (state_with 0))
          ∙ stands.sizes 0

      parts : parts_of nodes ≡ edge.parts
      parts = ext_get_or no_part (parts_of nodes) edge.parts (length-map nodes (λ (n : NodeState). n.part) ∙ many) (λ node _.
          get_or_each (λ (n : NodeState). n.part) nodes node no_node
          ∙ ap (λ (n : NodeState). n.part) (node_is node)
          ∙ sym (part_is node))

      pending : net_pending nodes ≡ edge.pending
      pending = same_at (net_pending nodes) edge.pending (λ k.
          get-gathered (λ q. q.node) (pendings nodes) at_home k
          ∙ ap (λ (m : Events). get m k) (pending_at nodes k.node ∙ ap (λ (n : NodeState). n.pending) (node_is k.node) ∙ sym (pending_at (seated (with_node k.node).seats) k.node))
          ∙ sym (get-gathered (λ q. q.node) (pendings (seated (with_node k.node).seats)) (home_of k.node) k)
          ∙ ap (λ (g : GroupState). get g.pending k) (sym (state_with k.node))
          ∙ stands.pending (group k.node) k
          ∙ ap (λ b. cond b (get edge.pending k) None) (eq-eqb (group k.node) (group k.node) refl))

      end_is : v.end ≡ edge.end
      end_is = from.end_is ∙ sym (same_end p v.position from.before edge from.in_run.comes)

      pub state_is : net_state nodes v.end ≡ edge
      state_is i = record { parts = parts i; pending = pending i; end = end_is i }

      -- LINKS

      module _ (number : ℕ) (under : number < length p.links) where
        abbrev f : ℕ
        f = from_of p.links number

        abbrev t : ℕ
        t = to_of p.links number

        abbrev x : ℕ
        x = exit_of p.links number

        ends : ends_at v.links number ≡ link_ends p.links number
        ends = from.links_are.each_link number under

        known : number < length v.links
        known = let size = from.links_are.size in omega (arith, under, size)

        place : place_at (with_node t).links number ≡ record { node = t; index = entry_of p.links number }
        place = ap (λ (ls : List LinkEnds). place_at ls number) (its_links t) ∙ ap (λ (e : LinkEnds). e.to) ends

        place_from : place_at (with_node f).links number ≡ record { node = t; index = entry_of p.links number }
        place_from = ap (λ (ls : List LinkEnds). place_at ls number) (its_links f) ∙ ap (λ (e : LinkEnds). e.to) ends

        own : group_to (with_node t) number ≡ (with_node t).number
        own = (λ i. group_in (its_entries t i) (place i).node) ∙ sym (its_number t)

        has : Rattle.node_group.specs.Group.IsOwnEntry (with_node t) number
        has = (are (group t) (in_range t)).entries_are number (subst (λ (ls : List LinkEnds). number < length ls) (sym (its_links t)) known) own

        coming : coming_at p.links nodes number ≡ entry_at (with_node t) number
        coming =
            ap (λ (n : NodeState). incoming_at n.incoming (entry_of p.links number)) (node_is t)
            ∙ ap (λ (q : EndPlace). incoming_at (member (with_node t) q.node).incoming q.index) (sym place)

        leaving : leaving_at p.links nodes number ≡ exit_at (with_node f) f x
        leaving = ap (λ (n : NodeState). link_at n.part.links x) (node_is f)

        there : (x < length (part_at edge f).links) × ((link_at (part_at edge f).links x).port.link ≡ number)
        there = exit_there edge v.position p from.before from.in_run.is_scenario from.in_run.comes number under

        inside : x < length (member (with_node f) f).part.links
        inside = subst (λ (q : PartState). x < length q.links) (part_is f) there.0

        named : (exit_at (with_node f) f x).port.link ≡ number
        named = ap (λ (q : PartState). (link_at q.links x).port.link) (sym (part_is f)) ∙ there.1

        exit : Rattle.node_group.specs.Group.IsOwnExit (with_node f) f x
        exit = (are (group f) (in_range f)).exits f x inside

        -- inside a group
        came_inside : group t ≡ group f → came_in (with_node t) number ≡ (exit_at (with_node f) f x).port.sent
        came_inside same =
            let one : with_node t ≡ with_node f = ap (value_at v.groups) same in
            ap (λ (g : GroupValue). came_in g number) one
            ∙ ap (came_in (with_node f)) (sym named)
            ∙ exit.inside (ap (group_to (with_node f)) named ∙ subst (λ (g : GroupValue). group_to g number ≡ g.number) one own)

        leaves_is : leaves_from v number ≡ group f
        leaves_is = ap (λ (e : LinkEnds). group e.from) ends

        comes_is : comes_to v number ≡ group t
        comes_is = ap (λ (e : LinkEnds). group e.to.node) ends

        idle : (wire_at (with_node f).held number).under_way ≡ []
        idle =
            let one = are (group f) (in_range f) in
            let wires = one.wires in
            let size = ap length (its_links f) in
            let here = known in
            nothing_under_way (with_node f).held one.by_link (ap (λ (g : GroupState). g.held) (sym (state_with f)) ∙ stands.held (group f)) number (omega (arith, here, wires, size))

        -- between two groups
        came_across : group t ≢ group f → came_in (with_node t) number ≡ (exit_at (with_node f) f x).port.sent
        came_across off =
            let none_left = ap length idle in
            let all : (wire_at (with_node f).held number).taken ≡ came_over (wire_at (with_node f).held number) = omega (arith, none_left) in
            ap (λ h. came_in (value_at v.groups h) number) (sym comes_is)
            ∙ is.split.across number known (λ same. off (sym comes_is ∙ sym same ∙ leaves_is))
            ∙ ap (λ h. (wire_at (value_at v.groups h).held number).taken) leaves_is
            ∙ all
            ∙ ap (λ n. came_over (wire_at (with_node f).held n)) (sym named)
            ∙ exit.across (λ e. off (sym (λ i. group_in (its_entries f i) (place_from i).node) ∙ ap (group_to (with_node f)) (sym named) ∙ e ∙ its_number f))

        joined : IsJoined p.links nodes number
        joined = record {
          entry = subst (λ (n : NodeState). entry_of p.links number < length n.incoming) (sym (node_is t)) (subst (λ (q : EndPlace). q.index < length (member (with_node t) q.node).incoming) place has.within);
          over = ap (λ (i : Incoming). i.link) coming ∙ has.over;
          came = ap (λ (i : Incoming). i.came) coming ∙ ⊎_elim came_inside came_across (cases_eq (group t) (group f)) ∙ ap (λ (l : LinkState). l.port.sent) (sym leaving);
        }

      pub net_parts : AreNetParts nodes v.links v.end v.position
      net_parts = record {
        run = record {
          scenario = p;
          lines = from.before;
          is_scenario = from.in_run.is_scenario;
          position_fits = is.split.fits;
          is = subst (ComesTo p v.position from.before) (sym state_is) from.in_run.comes;
        };
        placed = record {
          number = λ i under.
              let size = together.size in
              let all = length-seated (with_node i).seats in
              let seats = sizes i in
              ap (λ (n : NodeState). n.number) (node_is i) ∙ (are (group i) (in_range i)).placed.number i (omega (arith, under, size, all, seats));
          at_home = at_home;
        };
        joined = joined;
        links_are = from.links_are;
      }

-- Where no group has an event left in the window, the groups are ready for a turn.
use Rattle.std.proofs.Common.{◌≡◌, ◌≢◌, ◌≤◌, ◌<◌, ◌+◌, ℕ, List, [], ◌∷◌, length, map, get_or, true, Some, refl, sym, ap, subst, ◌∙◌, ⊎_elim, arith}
use Rattle.std.proofs.lemmas.Bool.{cases_lt}
use Rattle.std.proofs.lemmas.List.{get_or_past, length-map}
use Rattle.std.proofs.lemmas.Option.{slice_get-get_or}
use Rattle.std.specs.Option.{option_or}
use Rattle.std.specs.FinMap.{get, get-from_entries}
use Rattle.sim_time.specs.declared.key.Key.{Key}
use Rattle.sim_time.proofs.Order.{keys_total}
use Rattle.packet_chain.specs.Stamped.{Stamped}
use Rattle.packet_chain.specs.declared.packet.Packet.{Packet}
use Rattle.scenario_image.specs.declared.parts.ScenarioParts.{ScenarioParts}
use Rattle.tournament.specs.Gathered.{map_at}
use Rattle.tournament.proofs.Gathered.{get-gathered}
use Rattle.node_core.specs.declared.event.Event.{Event}
use Rattle.node_core.specs.declared.event.Event.TheVariants.{Arrive}
use Rattle.node_core.specs.Timers.{arrival_key}
use Rattle.node_core.specs.Pending.{Events}
use Rattle.node_core.specs.TraceLine.{TraceLine}
use Rattle.node_core.specs.WireState.{WireState, arrivals_on, pending_on, stamps_of}
use Rattle.net_machine.specs.declared.places.LinkEnds.{LinkEnds}
use Rattle.net_machine.specs.Wiring.{no_link_part, link_part, ends_at, place_at}
use Rattle.node_group.specs.Group.{GroupValue, IsGroup, came_in}
use Rattle.window_law.specs.Groups.{GroupState, group_at}
use Rattle.node_group.specs.Held.{wire_at, held_on}
use Rattle.line_merge.specs.Merged.{AreApart}
use Rattle.net_partition.specs.Partition.{group_in}
use Rattle.window_core.specs.Turning.{from_group, to_group, held_over, pending_in, IsShape, ComesLater, AreReady}
use Rattle.window_core.specs.Window.{WindowValue, value_at, states_of, machine_of, IsWindow}
use Rattle.window_law.specs.Windows.{all_done}
use Rattle.window_core.proofs.EndOfWindow.{IsAtEnd, at_end, arrives, are_apart, packet_at}
use Rattle.window_law.proofs.Fair.{maker_of, maker_over, others_node}
use Rattle.node_group.proofs.HeldBack.{over_link, held_home, wire_map}
use Rattle.window_law.proofs.Matches.{IsHeld, the_value, pending_under}
use Rattle.window_core.proofs.Windowed.{value_map, state_at, group_below}

-- a group that has given its lines, after so many events
abbrev pub cleared : ℕ → GroupValue → GroupValue
cleared n g = record g { lines = []; position = n }

module _ (v : WindowValue) (is : IsWindow v) (are : (h : ℕ) → h < length v.groups → IsGroup (value_at v.groups h)) (done : all_done v.until (states_of v.groups) ≡ true) where
  abbrev p : ScenarioParts
  p = is.from.scenario

  abbrev group : ℕ → ℕ
  group = group_in v.entries

  e : IsAtEnd p group is.edge (machine_of v)
  e = at_end p group v.position is.from.before is.edge (machine_of v) is.from.in_run done

  in_range : (node : ℕ) → group node < length v.groups
  in_range node = let below = group_below v.entries node in let count = is.split.count in omega (arith, below, count)

  same_lists : (groups : List GroupValue) → map (λ (g : GroupState). g.lines) (states_of groups) ≡ map (λ (g : GroupValue). g.lines) groups
  same_lists [] = refl
  same_lists (g ∷ groups) = ap (λ (ls : List (List TraceLine)). g.lines ∷ ls) (same_lists groups)

  pub lists_apart : AreApart (map (λ (g : GroupValue). g.lines) v.groups)
  lists_apart = subst AreApart (same_lists v.groups) (are_apart p group is.edge (machine_of v) e)

  -- a packet that a group holds back
  module _ (h : ℕ) (here : h < length v.groups) (link : ℕ) (under : link < length v.links) where
    abbrev g : GroupValue
    g = value_at v.groups h

    abbrev w : WireState
    w = wire_at g.held link

    g_links : g.links ≡ v.links
    g_links = (is.split.parts h here).links_are

    many : link < length g.held
    many = let wires = (are h here).wires in let size = ap length g_links in omega (arith, under, wires, size)

    w_link : w.link ≡ link
    w_link = (are h here).by_link link many

    w_node : w.node ≡ (place_at v.links link).node
    w_node = (are h here).ends_there link (subst (λ (ls : List LinkEnds). link < length ls) (sym g_links) under) ∙ ap (λ (ls : List LinkEnds). (place_at ls link).node) g_links

    module _ (j d : ℕ) (below : j < length (stamps_of w.under_way)) where
      abbrev key : Key
      key = arrival_key w.node w.link (get_or (stamps_of w.under_way) j d) (w.taken + 1 + j)

      its : (x : Packet) × (get (held_on g.held) key ≡ Some (Arrive x))
      its =
          let a = packet_at w.node w.link w.taken w.under_way j d below in
          let over : over_link key ≡ link = w_over in (
            a.packet,
            get-gathered over_link (map pending_on g.held) (held_home g.held (are h here).by_link) key
                ∙ ap (λ l. get (map_at (map pending_on g.held) l) key) over
                ∙ ap (λ (m : Events). get m key) (wire_map g.held link many)
                ∙ get-from_entries keys_total (arrivals_on w) key
                ∙ a.found,
          )
        where
          w_over : over_link key ≡ link
          w_over = let number = w_link in omega (arith, number)

      held_there : get (group_at (states_of v.groups) h).held key ≡ Some (Arrive its.0)
      held_there = ap (λ (s : GroupState). get s.held key) (state_at v.groups h here) ∙ its.1

      is_held : IsHeld group (maker_of p.links) v.until h key
      is_held = e.matches.held h key (Arrive its.0) held_there

      made : maker_of p.links key ≡ (ends_at v.links link).from
      made =
          let size = is.from.links_are.size in
          let ends = is.from.links_are.each_link link (omega (arith, under, size)) in
          maker_over p.links key link (link_part p.links link) (slice_get-get_or p.links link no_link_part (omega (arith, under, size))) (let number = w_link in omega (arith, number))
          ∙ sym (ap (λ (x : LinkEnds). x.from) ends)

      pub from_here : from_group v.entries v.links link ≡ h
      from_here = ap group (sym made) ∙ is_held.by

      pub not_to_here : to_group v.entries v.links link ≢ h
      not_to_here to = others_node group h key is_held.other (ap group w_node ∙ to)

      -- it is pending in the run
      in_run : get e.state.pending key ≡ Some (Arrive its.0)
      in_run =
          e.matches.pending key
          ∙ ap (λ n. option_or (get (group_at (states_of v.groups) n).held key) (get (group_at (states_of v.groups) (group key.node)).pending key)) is_held.by
          ∙ ap (λ o. option_or o (get (group_at (states_of v.groups) (group key.node)).pending key)) held_there

      -- what is pending over the link at its end comes sooner
      pub sooner : (t : ℕ) → t < length v.groups → came_in (value_at v.groups t) link ≡ w.taken → (k : Key) (u : Event) → get (pending_in (value_at v.groups t)) k ≡ Some u → k.source ≡ w.link + 1 → k.time < get_or (stamps_of w.under_way) j d
      sooner t t_in came k u there source =
          let there_state : get (group_at (states_of v.groups) t).pending k ≡ Some u = ap (λ (s : GroupState). get s.pending k) (state_at v.groups t t_in) ∙ there in
          let some = the_value (get e.state.pending k) (pending_under group (maker_of p.links) (Rattle.window_law.specs.Lookahead.lookahead group p.links) v.until e.state e.lines (states_of v.groups) e.matches t k u there_state) in
          let belongs = e.sound.sound.belongs k some.0 some.1 in
          let arrival = arrives p e.state e.sound.moment k some.0 belongs (λ z. absurd (omega (arith, source, z))) in
          let number = (are t t_in).counted link (subst (λ (ls : List LinkEnds). link < length ls) (sym (is.split.parts t t_in).links_are) under) k u there (let at = w_link in omega (arith, source, at)) in
          e.sound.sound.in_order k key arrival.0 its.0 (some.1 ∙ ap Some arrival.1) in_run source (omega (arith, number, came))

  none_of : (q : List Stamped) → ((j : ℕ) → j < length (stamps_of q) → ⊥) → q ≡ []
  none_of [] off = refl
  none_of (a ∷ q) off = absurd (off 0 (omega arith))

  -- READY

  module _ (n : ℕ) where
    abbrev mid : List GroupValue
    mid = map (cleared n) v.groups

    mid_at : (h : ℕ) → h < length v.groups → value_at mid h ≡ cleared n (value_at v.groups h)
    mid_at h here = value_map (cleared n) v.groups h here

    known : (h : ℕ) → h < length mid → h < length v.groups
    known h under = let size = length-map v.groups (cleared n) in omega (arith, under, size)

    held_mid : (h : ℕ) → h < length v.groups → (link : ℕ) → held_over mid h link ≡ wire_at (value_at v.groups h).held link
    held_mid h here link = ap (λ (x : GroupValue). wire_at x.held link) (mid_at h here)

    past_none : (h : ℕ) → h < length v.groups → (link : ℕ) → length v.links ≤ link → (wire_at (value_at v.groups h).held link).under_way ≡ []
    past_none h here link past =
        let wires = (are h here).wires in
        let size = ap length (is.split.parts h here).links_are in
        ap (λ (x : WireState). x.under_way) (get_or_past (value_at v.groups h).held link Rattle.node_group.specs.Held.no_wire (omega (arith, past, wires, size)))

    pub ready : AreReady v.entries v.links mid
    ready = record {
      count = length-map v.groups (cleared n) ∙ is.split.count;
      leaves = λ link under. (is.split.known link under).from;
      comes = λ link under. (is.split.known link under).to;
      shapes = λ h under.
          let here = known h under in
          let part = is.split.parts h here in
          let one = are h here in
          subst (IsShape v.entries v.links h) (sym (mid_at h here)) (record {
            number_is = part.number_is;
            entries_are = part.entries_are;
            links_are = part.links_are;
            wires = one.wires ∙ ap length part.links_are;
            by_link = one.by_link;
            ends_there = λ link l. w_node h here link l;
            no_lines = refl;
          });
      own = λ h link under off.
          let here = known h under in
          ap (λ (x : WireState). x.under_way) (held_mid h here link) ∙ ⊎_elim
          (λ (l : link < length v.links). none_of _ (λ j below. off (from_here h here link l j 0 below)))
          (λ (past : length v.links ≤ link). past_none h here link past)
          (cases_lt link (length v.links));
      inside = λ h link under same.
          let here = known h under in
          ap (λ (x : WireState). x.under_way) (held_mid h here link) ∙ ⊎_elim
          (λ (l : link < length v.links). none_of _ (λ j below. not_to_here h here link l j 0 below (same ∙ from_here h here link l j 0 below)))
          (λ (past : length v.links ≤ link). past_none h here link past)
          (cases_lt link (length v.links));
      across = λ link under off.
          let to = in_range (place_at v.links link).node in
          let from = in_range (ends_at v.links link).from in
          ap (λ (x : GroupValue). came_in x link) (mid_at (to_group v.entries v.links link) to)
          ∙ is.split.across link under off
          ∙ sym (ap (λ (x : WireState). x.taken) (held_mid (from_group v.entries v.links link) from link));
      later = λ link under off.
          let t = to_group v.entries v.links link in
          let f = from_group v.entries v.links link in
          let to = in_range (place_at v.links link).node in
          let from = in_range (ends_at v.links link).from in
          subst (λ (x : GroupValue). ComesLater (held_over mid f link) x) (sym (mid_at t to))
          (subst (λ (x : WireState). ComesLater x (value_at v.groups t)) (sym (held_mid f from link))
          (λ j d below k u there source. sooner f from link under j d below t to (is.split.across link under off) k u there source));
    }

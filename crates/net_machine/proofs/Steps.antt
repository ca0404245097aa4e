-- A net's step: what its first node needs to run its event, and that the nodes after it are in the state that the tables say.
use Rattle.std.proofs.Common.{◌≡◌, ◌≢◌, ℕ, zero, suc, ◌+◌, ◌<◌, cond, List, [], ◌∷◌, ◌++◌, length, set, replicate, refl, sym, ap, subst, ◌∙◌, Some, None, All, arith}
use Rattle.std.proofs.lemmas.Bool.{lt-ltb}
use Rattle.std.proofs.lemmas.List.{get_or-set_other, length-set, map-set, set-get_or}
use Rattle.std.proofs.Math.ListN.{get_or-map}
use Rattle.std.specs.Option.{option_map, option_and_then}
use Rattle.std.specs.FinMap as fin
use Rattle.std.specs.List.Sorted.{IsStrictlyIncreasing}
use Rattle.sim_time.specs.declared.key.Key.{Key}
use Rattle.sim_time.specs.declared.limits.TheConstants.{MOST_EVENTS}
use Rattle.packet_chain.specs.Stamped.{Stamped}
use Rattle.tournament.specs.Keyed.{apply, changed, least, next_key, entering, EachKey}
use Rattle.tournament.proofs.Maps.{same_some}
use Rattle.node_core.specs.declared.event.Event.{Event}
use Rattle.node_core.specs.declared.event.Event.TheVariants.{Arrive}
use Rattle.node_core.specs.Pending.{Events, EventChange}
use Rattle.node_core.specs.Timers.{arrival_key}
use Rattle.node_core.specs.EventQueueState.{Incoming, incoming_at}
use Rattle.node_core.specs.WireState.{arrivals}
use Rattle.node_core.specs.Part.{LinkState, PartState, link_at}
use Rattle.node_core.specs.Row.{Effect, Leaving, row, home_changes, sent_away}
use Rattle.node_core.specs.Ready.{IsRunnable}
use Rattle.node_core.specs.TraceLine.{TraceLine}
use Rattle.node_core.specs.Node.{NodeState, delivered}
use Rattle.table_run.specs.State.{State, part_at, below as below_end, due, effect_of, stepped, line_of, step_at, step, one_step_more, run, initial}
use Rattle.net_machine.specs.declared.places.EndPlace.{EndPlace}
use Rattle.net_machine.specs.declared.places.LinkEnds.{LinkEnds}
use Rattle.net_machine.specs.Run.{Reached, IsRun}
use Rattle.net_machine.specs.Nodes.{no_node, node_at, net_pending, parts_of, net_state, reached, IsPlaced, IsFirst}
use Rattle.net_machine.specs.Wiring.{from_of, exit_of, to_of, entry_of, leaving_at, coming_at, place_at, IsNetWire, IsExit, IsWired}
use Rattle.net_machine.specs.NetOf.{IsNet}
use Rattle.net_machine.proofs.AtNodes.{node_key}
use Rattle.net_machine.specs.Region.{effect_at, node_after, link_left, packet_left, come_over, IsOver, CanCome}
use Rattle.net_machine.proofs.Home.{its_node, fired_placed, fired_pending, come_placed, come_pending}
use Rattle.table_run.proofs.Ready.{LinksStay, IsDelivery, runnable, links_stay, delivery}
use Rattle.net_machine.proofs.Wired.{wired_fired, wired_delivered}

apply_both : (cs ds : List EventChange) (m : Events) → apply (cs ++ ds) m ≡ apply ds (apply cs m)
apply_both [] ds m = refl
apply_both (c ∷ cs) ds m = apply_both cs ds (changed m c.0 c.1)

-- one step more is a run too
abbrev pub run_step : (r : Reached) (line : TraceLine) (new : State) → IsRun r → r.position < MOST_EVENTS → step r.state ≡ Some (line, new) → IsRun record { state = new; position = r.position + 1 }
run_step r line new is_run fits is = record {
  scenario = is_run.scenario;
  lines = is_run.lines ++ line ∷ [];
  is_scenario = is_run.is_scenario;
  position_fits = omega (arith, fits);
  is = subst (λ n. run (initial is_run.scenario) n ≡ Some (is_run.lines ++ line ∷ [], new)) {x = suc r.position} {y = r.position + 1} (omega arith)
      (ap (option_and_then one_step_more) is_run.is ∙ ap (option_map {U = List TraceLine × State} (λ (next : TraceLine × State). (is_run.lines ++ next.0 ∷ [], next.1))) is);
}

-- what holds of the only one
pub one_all : (P : ℕ → Type 0) (x : ℕ) → P x → All P (x ∷ [])
one_all P x h zero d under = h
one_all P x h (suc k) d under = absurd (omega (arith, under))

pub one_rising : (x : ℕ) → IsStrictlyIncreasing (x ∷ [])
one_rising x k under = absurd (omega (arith, under))

module _ (nodes : List NodeState) (ends : List LinkEnds) (out : List (List Stamped)) (end position : ℕ) (is : IsNet nodes ends out end position) (place : ℕ) (first : IsFirst nodes place) where
  -- the least key is the first node's
  pub its_key : (key : Key) → Some key ≡ next_key (net_pending nodes) → (k : Key) (v : Event) → least (node_at nodes place).pending ≡ Some (k, v) → key ≡ k
  its_key key next k v here = same_some key k (next ∙ ap (option_map (λ (entry : Key × Event). entry.0)) (first.same ∙ here))

  module _ (k : Key) (v : Event) (here : least (node_at nodes place).pending ≡ Some (k, v)) (early : k.time < end) where
    due_here : due (net_state nodes end) ≡ Some (k, v)
    due_here = ap (below_end end) (first.same ∙ here) ∙ ap (λ b. cond b (Some (k, v)) None) (lt-ltb k.time end early)

    node_is : k.node ≡ place
    node_is = its_node nodes is.placed place first.within k v here

    part_is : part_at (net_state nodes end) k.node ≡ (node_at nodes place).part
    part_is = ap (part_at (net_state nodes end)) node_is ∙ get_or-map (λ (n : NodeState). n.part) nodes place no_node

    effect_is : effect_of (net_state nodes end) (k, v) ≡ row (node_at nodes place).part k v
    effect_is = ap (λ (p : PartState). row p k v) part_is

    -- the event can be run
    pub ready : position < MOST_EVENTS → IsRunnable (node_at nodes place).part k v
    ready few = subst (λ (p : PartState). IsRunnable p k v) part_is (runnable is.run.scenario position is.run.lines (net_state nodes end) is.run.is_scenario is.run.is k v due_here few)

    stay : LinksStay (node_at nodes place).part.links (row (node_at nodes place).part k v).part.links (row (node_at nodes place).part k v).leaving
    stay = subst (λ (p : PartState). LinksStay p.links (row p k v).part.links (row p k v).leaving) part_is
        (links_stay is.run.scenario position is.run.lines (net_state nodes end) is.run.is_scenario is.run.is k v due_here)

    leaves : (l : Leaving) → (row (node_at nodes place).part k v).leaving ≡ Some l → IsDelivery (net_state nodes end) position k (row (node_at nodes place).part k v).part.links l
    leaves l left = subst (λ (e : Effect). IsDelivery (net_state nodes end) position k e.part.links l) effect_is
        (delivery is.run.scenario position is.run.lines (net_state nodes end) is.run.is_scenario is.run.is k v due_here l (ap (λ (e : Effect). e.leaving) effect_is ∙ left))

    step_is : step (net_state nodes end) ≡ Some (line_of (k, v) (row (node_at nodes place).part k v), stepped (net_state nodes end) k (row (node_at nodes place).part k v))
    step_is = ap (option_map {U = TraceLine × State} (step_at (net_state nodes end))) due_here
        ∙ ap (λ (e : Effect). Some (line_of (k, v) e, stepped (net_state nodes end) k e)) effect_is

    abbrev pub eff : Effect
    eff = effect_at nodes place k v

    -- the nodes once it has run it
    abbrev pub ran : List NodeState
    ran = set nodes place (node_after nodes place k v)

    placed_ran : IsPlaced ran
    placed_ran = fired_placed nodes is.placed place first.within k v here (node_after nodes place k v) refl

    parts_ran : parts_of ran ≡ set (parts_of nodes) k.node eff.part
    parts_ran = map-set (λ (n : NodeState). n.part) nodes place (node_after nodes place k v) ∙ ap (λ i. set (parts_of nodes) i eff.part) (sym node_is)

    pending_ran : net_pending ran ≡ apply (home_changes k.node eff) (fin.remove (net_pending nodes) k)
    pending_ran = fired_pending nodes is.placed place first.within k v here (node_after nodes place k v) refl

    -- a step, where what is pending at last is what the row says
    stepped_to : (last : List NodeState) → parts_of last ≡ set (parts_of nodes) k.node eff.part → net_pending last ≡ apply (sent_away eff.part.links eff.leaving) (apply (home_changes k.node eff) (fin.remove (net_pending nodes) k))
        → step (net_state nodes end) ≡ Some (line_of (k, v) eff, net_state last end)
    stepped_to last parts pending =
        let same : net_state last end ≡ stepped (net_state nodes end) k eff =
        let all = pending ∙ sym (apply_both (home_changes k.node eff) (sent_away eff.part.links eff.leaving) (fin.remove (net_pending nodes) k)) in
        λ i. record { parts = parts i; pending = all i; end = end } in
        step_is ∙ (λ i. Some (line_of (k, v) eff, sym same i))

    -- nothing left
    module _ (none : eff.leaving ≡ None) where
      pub quiet_step : step (net_state nodes end) ≡ Some (line_of (k, v) eff, net_state ran end)
      quiet_step = stepped_to ran parts_ran (pending_ran ∙ ap (λ o. apply (sent_away eff.part.links o) (apply (home_changes k.node eff) (fin.remove (net_pending nodes) k))) (sym none))

      quiet_wired : IsWired is.run.scenario.links ran
      quiet_wired = wired_fired is.run.scenario.links nodes is.wired place first.within (node_after nodes place k v) refl eff.leaving stay none

      pub quiet_net : position < MOST_EVENTS → IsNet ran ends (replicate 16 []) end (position + 1)
      quiet_net fits = record { run = run_step (reached nodes end position) (line_of (k, v) eff) (net_state ran end) is.run fits quiet_step; placed = placed_ran; wired = quiet_wired; ends_are = is.ends_are; out_empty = refl }

    -- a packet left over a link
    module _ (l : Leaving) (left : eff.leaving ≡ Some l) where
      abbrev link : ℕ
      link = link_left eff l

      abbrev to : EndPlace
      to = place_at ends link

      gone : IsDelivery (net_state nodes end) position k eff.part.links l
      gone = leaves l left

      within_old : l.index < length (node_at nodes place).part.links
      within_old = subst (λ (p : PartState). l.index < length p.links) part_is gone.within

      link_old : link ≡ (link_at (node_at nodes place).part.links l.index).port.link
      link_old = (stay.same_links l.index).same_number

      its_exit : IsExit is.run.scenario.links nodes place l.index
      its_exit = is.wired.exits place l.index within_old

      known : link < length is.run.scenario.links
      known = subst (λ n. n < length is.run.scenario.links) (sym link_old) its_exit.known

      from_here : from_of is.run.scenario.links link ≡ place
      from_here = ap (from_of is.run.scenario.links) link_old ∙ its_exit.from_here

      exit_here : exit_of is.run.scenario.links link ≡ l.index
      exit_here = ap (exit_of is.run.scenario.links) link_old ∙ its_exit.exit_here

      wire : IsNetWire is.run.scenario.links nodes link
      wire = is.wired.wires link known

      pub over : IsOver ends eff l
      over = record {
        has_link = subst (λ n. l.index < n) (sym stay.same_length) within_old;
        has_chain = (let few = is.wired.few place in omega (arith, within_old, few));
        known = subst (λ n. link < n) (sym is.ends_are.size) known;
      }

      to_node : to.node ≡ to_of is.run.scenario.links link
      to_node = ap (λ (e : LinkEnds). e.to.node) (is.ends_are.each_link link known)

      to_index : to.index ≡ entry_of is.run.scenario.links link
      to_index = ap (λ (e : LinkEnds). e.to.index) (is.ends_are.each_link link known)

      -- the link after the event, and its sending side before
      abbrev used : LinkState
      used = link_at eff.part.links l.index

      old_is : link_at (node_at nodes place).part.links l.index ≡ leaving_at is.run.scenario.links nodes link
      old_is = λ i. link_at (node_at nodes (sym from_here i)).part.links (sym exit_here i)

      used_to : used.to ≡ to.node
      used_to = (stay.same_links l.index).same_to ∙ ap (λ (link : LinkState). link.to) old_is ∙ wire.ends ∙ sym to_node

      elsewhere : to.node ≢ place
      elsewhere same = gone.elsewhere (used_to ∙ same ∙ sym node_is)

      same_there : node_at ran to.node ≡ node_at nodes to.node
      same_there = get_or-set_other nodes place to.node (node_after nodes place k v) no_node elsewhere

      to_within : to.node < length ran
      to_within = subst (λ n. to.node < n) (sym (length-set nodes place (node_after nodes place k v))) (subst (λ n. n < length nodes) (sym to_node) wire.within)

      entry_within : to.index < length (node_at ran to.node).incoming
      entry_within = subst (λ (n : NodeState). to.index < length n.incoming) (sym same_there)
          (subst (λ n. n < length (node_at nodes to.node).incoming) (sym to_index) (subst (λ n. entry_of is.run.scenario.links link < length (node_at nodes n).incoming) (sym to_node) wire.entry))

      coming_is : incoming_at (node_at ran to.node).incoming to.index ≡ coming_at is.run.scenario.links nodes link
      coming_is = ap (λ (n : NodeState). incoming_at n.incoming to.index) same_there ∙ (λ i. incoming_at (node_at nodes (to_node i)).incoming (to_index i))

      over_is : (incoming_at (node_at ran to.node).incoming to.index).link ≡ link
      over_is = ap (λ (i : Incoming). i.link) coming_is ∙ wire.over

      sent_next : used.port.sent ≡ (link_at (node_at nodes place).part.links l.index).port.sent + 1
      sent_next = gone.is_next ∙ ap (λ (p : PartState). (link_at p.links l.index).port.sent + 1) part_is

      came_next : (incoming_at (node_at ran to.node).incoming to.index).came + 1 ≡ used.port.sent
      came_next = ap (λ (i : Incoming). i.came + 1) coming_is ∙ ap (λ n. n + 1) wire.came ∙ ap (λ (link : LinkState). link.port.sent + 1) (sym old_is) ∙ sym sent_next

      -- it can come to the link's end
      pub can_come : position < MOST_EVENTS → CanCome ends ran link (packet_left l)
      can_come fits = record {
        there = to_within;
        within = entry_within;
        rising = one_rising l.departure.arrival;
        later = one_all (λ stamp. EachKey (λ q. q.source ≡ (incoming_at (node_at ran to.node).incoming to.index).link + 1 → q.time < stamp) (node_at ran to.node).pending) l.departure.arrival
            (λ q w there source. (gone.last q w (node_key nodes is.placed to.node q w (ap (λ (n : NodeState). fin.get n.pending q) (sym same_there) ∙ there)) (source ∙ ap (λ n. n + 1) over_is)).0);
        few = omega (arith, came_next, gone.sent_most, fits);
      }

      -- it has come there
      abbrev pub last : List NodeState
      last = come_over ends ran link (packet_left l)

      abbrev y : NodeState
      y = delivered (node_at ran to.node) to.index (packet_left l)

      placed_last : IsPlaced last
      placed_last = come_placed ran placed_ran to.node to_within to.index (packet_left l) y refl

      parts_last : parts_of last ≡ set (parts_of nodes) k.node eff.part
      parts_last =
          map-set (λ (n : NodeState). n.part) ran to.node y
          ∙ ap (set (parts_of ran) to.node) (sym (get_or-map (λ (n : NodeState). n.part) ran to.node no_node))
          ∙ set-get_or (parts_of ran) to.node no_node.part
          ∙ parts_ran

      made_is : entering (arrivals to.node (incoming_at (node_at ran to.node).incoming to.index).link (incoming_at (node_at ran to.node).incoming to.index).came (packet_left l)) ≡ sent_away eff.part.links eff.leaving
      made_is =
          (λ i. (arrival_key (sym used_to i) (over_is i) l.departure.arrival (came_next i), Some (Arrive l.departure.packet)) ∷ [])
          ∙ ap (sent_away eff.part.links) (sym left)

      pending_last : net_pending last ≡ apply (sent_away eff.part.links eff.leaving) (apply (home_changes k.node eff) (fin.remove (net_pending nodes) k))
      pending_last =
          come_pending ran placed_ran to.node to_within to.index (packet_left l) y refl
          ∙ ap (λ cs. apply cs (net_pending ran)) made_is
          ∙ ap (apply (sent_away eff.part.links eff.leaving)) pending_ran

      pub come_step : step (net_state nodes end) ≡ Some (line_of (k, v) eff, net_state last end)
      come_step = stepped_to last parts_last pending_last

      wired_last : IsWired is.run.scenario.links last
      wired_last = subst (IsWired is.run.scenario.links) (sym (λ i. set ran (to_node i) (delivered (node_at ran (to_node i)) (to_index i) (packet_left l))))
          (wired_delivered is.run.scenario.links nodes is.wired place first.within (node_after nodes place k v) refl eff.leaving stay l left link known from_here exit_here sent_next (packet_left l) refl _ refl)

      pub come_net : position < MOST_EVENTS → IsNet last ends (replicate 16 []) end (position + 1)
      come_net fits = record { run = run_step (reached nodes end position) (line_of (k, v) eff) (net_state last end) is.run fits come_step; placed = placed_last; wired = wired_last; ends_are = is.ends_are; out_empty = refl }

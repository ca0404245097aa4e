-- A group's firing: its least event can be run, and once its node has run it.
use Rattle.std.proofs.Common.{◌≡◌, ◌≢◌, ℕ, ◌+◌, ◌<◌, ◌≤◌, cond, List, [], ◌∷◌, ◌++◌, length, set, get_or, refl, sym, ap, subst, ◌∙◌, Some, None, Option, ⊎_elim, arith}
use Rattle.std.proofs.lemmas.Bool.{lt-ltb}
use Rattle.std.proofs.lemmas.List.{get_or-set_same, length-set, map-set}
use Rattle.std.proofs.Math.ListN.{get_or-map}
use Rattle.std.specs.List.{AllByRecursion}
use Rattle.std.specs.Option.{option_map, unwrap_or}
use Rattle.std.specs.FinMap as fin
use Rattle.sim_time.specs.declared.key.Key.{Key}
use Rattle.sim_time.specs.declared.limits.TheConstants.{MOST_EVENTS}
use Rattle.scenario_image.specs.declared.parts.ScenarioParts.{ScenarioParts}
use Rattle.scenario_image.specs.declared.parts.LinkPart.{LinkPart}
use Rattle.scenario_image.specs.Scenario.{IsScenario}
use Rattle.scenario_image.proofs.Courses.{all_at}
use Rattle.tournament.specs.Keyed.{apply, changed, least, EachKey}
use Rattle.tournament.proofs.Maps.{not_some, each_apply, least_is}
use Rattle.node_core.specs.declared.event.Event.{Event}
use Rattle.node_core.specs.Pending.{Events, EventChange}
use Rattle.node_core.specs.Part.{PartState}
use Rattle.node_core.specs.Row.{Effect, Leaving, row, home_changes, sent_away, changes_of}
use Rattle.node_core.specs.Ready.{IsRunnable}
use Rattle.node_core.specs.TraceLine.{TraceLine}
use Rattle.node_core.specs.Node.{NodeState}
use Rattle.node_core.specs.WireState.{WireState}
use Rattle.table_run.specs.State.{part_at, below as below_end, due, effect_of, line_of}
use Rattle.table_run.specs.Laws.{IsMadeAt, ComesOver}
use Rattle.table_run.proofs.Lists.{all_left, all_map}
use Rattle.table_run.proofs.Ready.{LinksStay, IsDelivery}
use Rattle.table_run.proofs.RunLaws.{effects_are_local}
use Rattle.net_machine.specs.Nodes.{no_node, node_at, net_pending, parts_of, IsPlaced, IsFirst}
use Rattle.net_machine.specs.Region.{effect_at, node_after}
use Rattle.net_machine.proofs.AtNodes.{node_key}
use Rattle.net_machine.proofs.Home.{its_node, fired_placed, fired_pending}
use Rattle.net_partition.specs.Partition.{group_in}
use Rattle.node_group.specs.Seats.{Seats, seated, taken_nodes}
use Rattle.node_group.specs.Held.{held_on}
use Rattle.window_law.specs.Groups.{GroupState, group_at, own_of, others_of, up_to, fire, fire_on, group_fired}
use Rattle.window_law.specs.Windows.{setting_of}
use Rattle.window_law.specs.Calls.{IsOpenFrom}
use Rattle.node_group.specs.Group.{GroupValue, state_of, member, IsGroup, IsOnRun}
use Rattle.window_law.proofs.Calls.{fire_keeps}
use Rattle.table_run.proofs.AtHome.{home_at}
use Rattle.node_group.proofs.Made.{own_all, others_none, own_both, others_both}
use Rattle.node_group.proofs.DueHere.{in_run, comes, effect_is, part_links, ready, stay, leaves}
use Rattle.net_machine.proofs.AfterEvent.{same_coming}
use Rattle.node_group.proofs.Come.{came_at, AreCounted}
use Rattle.node_group.proofs.Seated.{length-seated, seated_set, taken_set, is_seated}
use Rattle.node_group.proofs.AtSeats.{with_event, set_at, set_others}

pub apply_both : (cs ds : List EventChange) (m : Events) → apply (cs ++ ds) m ≡ apply ds (apply cs m)
apply_both [] ds m = refl
apply_both (c ∷ cs) ds m = apply_both cs ds (changed m c.0 c.1)

-- of what an event makes, what is at its own node are timers
timers : (p : ScenarioParts) → IsScenario p → (k : Key) (cs : List EventChange) → AllByRecursion (IsMadeAt p k) cs → AllByRecursion (λ (c : EventChange). c.0.node ≡ k.node) cs → AllByRecursion (λ (c : EventChange). c.0.source ≡ 0) cs
timers p is_scenario k [] made here = tt
timers p is_scenario k (c ∷ cs) made here = (
  ⊎_elim
      (λ (timer : (c.0.node ≡ k.node) × (c.0.source ≡ 0)). timer.1)
      (λ (over : ComesOver p k.node k.time c.0).
      absurd (all_at (λ (l : LinkPart). l.from ≢ l.to) p.links over.number over.link is_scenario.kinds.each_link over.its_link (over.leaves ∙ sym here.0 ∙ sym over.ends)))
      made.0,
  timers p is_scenario k cs made.1 here.1,
)

module _ (g : GroupValue) (is : IsGroup g) (on : IsOnRun g) (end : ℕ) (below : end ≤ g.until) (place : ℕ) (first : IsFirst (seated g.seats) place) where
  module _ (k : Key) (v : Event) (here : least (member g place).pending ≡ Some (k, v)) (early : k.time < end) where
    pub due_by : (moment : ℕ) → k.time < moment → due (up_to moment (state_of g)) ≡ Some (k, v)
    due_by moment l = ap (below_end moment) (first.same ∙ here) ∙ ap (λ b. cond b (Some (k, v)) None) (lt-ltb k.time moment l)

    pub is_due : due (up_to g.until (state_of g)) ≡ Some (k, v)
    is_due = due_by g.until (omega (arith, early, below))

    pub node_is : k.node ≡ place
    node_is = its_node (seated g.seats) is.placed place first.within k v here

    pub own_place : group_in g.entries place ≡ g.number
    own_place = ap (group_in g.entries) (sym node_is) ∙ (in_run g on k v is_due).its_own

    pub runnable_here : g.position + length g.lines < MOST_EVENTS → IsRunnable (member g place).part k v
    runnable_here fits = subst (λ n. IsRunnable (member g n).part k v) node_is (ready g on k v is_due fits)

    pub stay_here : LinksStay (member g place).part.links (row (member g place).part k v).part.links (row (member g place).part k v).leaving
    stay_here = subst (λ n. LinksStay (member g n).part.links (row (member g n).part k v).part.links (row (member g n).part k v).leaving) node_is (stay g on k v is_due)

    pub leaves_here : (l : Leaving) → (row (member g place).part k v).leaving ≡ Some l → IsDelivery (in_run g on k v is_due).state (g.position + length g.lines) k (row (member g place).part k v).part.links l
    leaves_here = subst (λ n. (l : Leaving) → (row (member g n).part k v).leaving ≡ Some l → IsDelivery (in_run g on k v is_due).state (g.position + length g.lines) k (row (member g n).part k v).part.links l) node_is (leaves g on k v is_due)

    pub part_here : part_at (in_run g on k v is_due).state k.node ≡ (member g place).part
    part_here = part_links g on k v is_due ∙ ap (λ n. (member g n).part) node_is

    -- what is made at home are timers
    timers_here : AllByRecursion (λ (c : EventChange). c.0.source ≡ 0) (home_changes k.node (row (member g place).part k v))
    timers_here =
        let r = in_run g on k v is_due in
        let effect : effect_of r.state (k, v) ≡ row (member g place).part k v = effect_is g on k v is_due ∙ ap (λ n. row (member g n).part k v) node_is in
        let made = effects_are_local on.scenario (g.position + r.steps) (on.before ++ r.lines) r.state on.is_group.in_run.is_scenario (comes g on k v is_due) k v r.is_due in
        timers on.scenario on.is_group.in_run.is_scenario k (home_changes k.node (row (member g place).part k v))
        (all_left (IsMadeAt on.scenario k) (home_changes k.node (row (member g place).part k v)) (sent_away (row (member g place).part k v).part.links (row (member g place).part k v).leaving)
        (subst (λ (e : Effect). AllByRecursion (IsMadeAt on.scenario k) (changes_of k.node e)) effect made))
        (home_at (member g place).part k v)

    abbrev pub eff : Effect
    eff = effect_at (seated g.seats) place k v

    abbrev pub line : TraceLine
    line = line_of (k, v) eff

    -- the node once it has run it, and all nodes
    abbrev pub node : NodeState
    node = node_after (seated g.seats) place k v

    abbrev pub seats : Seats
    seats = set g.seats place (Some node)

    inside : place < length g.seats
    inside = let size = length-seated g.seats in let within = first.within in omega (arith, size, within)

    pub others : seated seats ≡ set (seated g.seats) place (node_at (seated seats) place)
    others = set_others g.seats place inside node

    pub node_ns : node_at (seated seats) place ≡ node
    node_ns = set_at g.seats place inside node

    pub placed_ns : IsPlaced (seated seats)
    placed_ns = subst IsPlaced (sym (seated_set g.seats place node)) (fired_placed (seated g.seats) is.placed place first.within k v here node refl)

    pub same_seats : taken_nodes seats ≡ taken_nodes g.seats
    same_seats = taken_set g.seats place node (there.0) there.1.0
      where
        there : (x : NodeState) × ((get_or g.seats place None ≡ Some x) × (node_at (seated g.seats) place ≡ x))
        there = is_seated g.seats place inside (with_event g.seats place inside (λ none. not_some (sym none ∙ ap (option_map (λ (entry : Key × Event). entry.0)) here)))

    pub parts_ns : parts_of (seated seats) ≡ set (parts_of (seated g.seats)) k.node eff.part
    parts_ns = ap parts_of (seated_set g.seats place node) ∙ map-set (λ (n : NodeState). n.part) (seated g.seats) place node ∙ ap (λ i. set (parts_of (seated g.seats)) i eff.part) (sym node_is)

    pub pending_ns : net_pending (seated seats) ≡ apply (home_changes k.node eff) (fin.remove (net_pending (seated g.seats)) k)
    pending_ns = ap net_pending (seated_set g.seats place node) ∙ fired_pending (seated g.seats) is.placed place first.within k v here node refl

    pub coming_ns : (node : ℕ) → (node_at (seated seats) node).incoming ≡ (member g node).incoming
    coming_ns = same_coming (seated g.seats) (seated seats) place first.within node (seated_set g.seats place node) refl eff.leaving stay_here

    pub came_ns : (link : ℕ) → came_at g.links (seated seats) link ≡ came_at g.links (seated g.seats) link
    came_ns link = ap (λ (all : List Rattle.node_core.specs.EventQueueState.Incoming). (Rattle.node_core.specs.EventQueueState.incoming_at all (Rattle.net_machine.specs.Wiring.place_at g.links link).index).came) (coming_ns (Rattle.net_machine.specs.Wiring.place_at g.links link).node)

    pub counted_ns : AreCounted g.links (seated seats)
    counted_ns link under =
        subst (EachKey (λ k. k.source ≡ link + 1 → k.number ≤ came_at g.links (seated seats) link)) (sym pending_ns)
        (subst (λ n. EachKey (λ k. k.source ≡ link + 1 → k.number ≤ n) (apply (home_changes k.node eff) (fin.remove (net_pending (seated g.seats)) k))) (sym (came_ns link))
        (each_apply (λ k. k.source ≡ link + 1 → k.number ≤ came_at g.links (seated g.seats) link) ((k, None) ∷ home_changes k.node eff) (net_pending (seated g.seats)) (
          is.counted link under k v (node_key (seated g.seats) is.placed place k v (least_is (member g place).pending k v here).pending),
          all_map (λ (c : EventChange). c.0.source ≡ 0) (λ (c : EventChange). c.0.source ≡ link + 1 → c.0.number ≤ came_at g.links (seated g.seats) link) (λ c timer source. absurd (let no : ⊥ = omega (arith, timer, source) in no)) (home_changes k.node eff) (timers_here),
        )
        (is.counted link under)))

    -- the group after it: new nodes, new wires, one line more
    module _ (last : Seats) (held : List WireState) where
      abbrev pub new : GroupValue
      new = record g { seats = last; held = held; lines = g.lines ++ line ∷ [] }

      module _ (parts : parts_of (seated last) ≡ set (parts_of (seated g.seats)) k.node eff.part) (pending : net_pending (seated last) ≡ apply (own_of (group_in g.entries) g.number (sent_away eff.part.links eff.leaving)) (net_pending (seated seats)))
          (waits : held_on held ≡ apply (others_of (group_in g.entries) g.number (sent_away eff.part.links eff.leaving)) (held_on g.held)) where
        home_own : AllByRecursion (λ (c : EventChange). group_in g.entries c.0.node ≡ g.number) (home_changes k.node eff)
        home_own = all_map (λ (c : EventChange). c.0.node ≡ k.node) (λ (c : EventChange). group_in g.entries c.0.node ≡ g.number)
            (λ c at. ap (group_in g.entries) (at ∙ node_is) ∙ own_place) (home_changes k.node eff) (home_at (member g place).part k v)

        mine : own_of (group_in g.entries) g.number (changes_of k.node eff) ≡ home_changes k.node eff ++ own_of (group_in g.entries) g.number (sent_away eff.part.links eff.leaving)
        mine = own_both (group_in g.entries) g.number (home_changes k.node eff) (sent_away eff.part.links eff.leaving)
            ∙ ap (λ (cs : List EventChange). cs ++ own_of (group_in g.entries) g.number (sent_away eff.part.links eff.leaving)) (own_all (group_in g.entries) g.number (home_changes k.node eff) home_own)

        theirs : others_of (group_in g.entries) g.number (changes_of k.node eff) ≡ others_of (group_in g.entries) g.number (sent_away eff.part.links eff.leaving)
        theirs = others_both (group_in g.entries) g.number (home_changes k.node eff) (sent_away eff.part.links eff.leaving)
            ∙ ap (λ (cs : List EventChange). cs ++ others_of (group_in g.entries) g.number (sent_away eff.part.links eff.leaving)) (others_none (group_in g.entries) g.number (home_changes k.node eff) home_own)

        pending_all : apply (own_of (group_in g.entries) g.number (changes_of k.node eff)) (fin.remove (net_pending (seated g.seats)) k) ≡ net_pending (seated last)
        pending_all =
            ap (λ (cs : List EventChange). apply cs (fin.remove (net_pending (seated g.seats)) k)) mine
            ∙ apply_both (home_changes k.node eff) (own_of (group_in g.entries) g.number (sent_away eff.part.links eff.leaving)) (fin.remove (net_pending (seated g.seats)) k)
            ∙ ap (apply (own_of (group_in g.entries) g.number (sent_away eff.part.links eff.leaving))) (sym pending_ns)
            ∙ sym pending

        held_all : apply (others_of (group_in g.entries) g.number (changes_of k.node eff)) (held_on g.held) ≡ held_on held
        held_all = ap (λ (cs : List EventChange). apply cs (held_on g.held)) theirs ∙ sym waits

        effect_here : (moment : ℕ) → effect_of (up_to moment (state_of g)) (k, v) ≡ eff
        effect_here moment = ap (λ (p : PartState). row p k v) (get_or-map (λ (n : NodeState). n.part) (seated g.seats) k.node no_node ∙ ap (λ n. (member g n).part) (node_is))

        fired_is : group_fired (group_in g.entries) g.number (state_of g) (k, v) eff ≡ state_of new
        fired_is = λ i. record { parts = sym parts i; pending = pending_all i; held = held_all i; lines = g.lines ++ line ∷ [] }

        fire_on_is : (moment : ℕ) → fire_on (group_in g.entries) g.number moment (state_of g) (k, v) ≡ state_of new
        fire_on_is moment = ap (group_fired (group_in g.entries) g.number (state_of g) (k, v)) (effect_here moment) ∙ fired_is

        pub fires_by : (moment : ℕ) → k.time < moment → fire (group_in g.entries) g.number moment (state_of g) ≡ Some (state_of new)
        fires_by moment l = ap (option_map (fire_on (group_in g.entries) g.number moment (state_of g))) (due_by moment l) ∙ ap (λ (s : GroupState). Some s) (fire_on_is moment)

        -- it is still on the run
        there : due (up_to on.window.until (group_at on.window.groups g.number)) ≡ Some (k, v)
        there = (λ i. due (up_to (on.is_group.same_end i) (on.is_group.is_it i))) ∙ is_due

        becomes : fire_on (group_in g.entries) g.number on.window.until (group_at on.window.groups g.number) (k, v) ≡ state_of new
        becomes = ap (λ (s : GroupState). fire_on (group_in g.entries) g.number on.window.until s (k, v)) on.is_group.is_it ∙ fire_on_is on.window.until

        pub on_run_new : IsOnRun new
        on_run_new = record {
          scenario = on.scenario;
          before = on.before;
          edge = on.edge;
          window = record { groups = set on.window.groups g.number (state_of new); until = on.window.until };
          is_group = record {
            in_run = record {
              is_scenario = on.is_group.in_run.is_scenario;
              comes = on.is_group.in_run.comes;
              is_open = subst (λ (s : GroupState). IsOpenFrom (setting_of (group_in g.entries) on.scenario) on.edge record { groups = set on.window.groups g.number s; until = on.window.until }) becomes
                  (fire_keeps (setting_of (group_in g.entries) on.scenario) on.edge on.window on.is_group.in_run.is_open g.number (k, v) there);
            };
            within = subst (λ n. g.number < n) (sym (length-set on.window.groups g.number (state_of new))) on.is_group.within;
            is_it = get_or-set_same on.window.groups g.number (state_of new) Rattle.window_law.specs.Groups.no_group on.is_group.within;
            same_end = on.is_group.same_end;
            links_are = on.is_group.links_are;
          };
        }

        pub one_firing : state_of new ≡ Rattle.window_law.specs.Groups.fire_times (group_in g.entries) g.number end 1 (state_of g)
        one_firing = sym (ap (λ (o : Option GroupState). unwrap_or o (state_of g)) (fires_by end early))

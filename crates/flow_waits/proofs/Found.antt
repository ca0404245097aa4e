-- Where a flow becomes stalled in a run.
use Rattle.std.proofs.Common.{◌≡◌, ◌≢◌, ℕ, ◌-◌, ◌<◌, ◌≤◌, ◌==◌, ◌&&◌, ◌||◌, Bool, true, false, not, List, [], ◌∷◌, length, get_or, refl, sym, ap, subst, ◌∙◌, Some, is_none, arith, inl, inr, ◌⊎◌, ⊎_elim, true≢false, eqb-true, eq-eqb}
use Rattle.std.proofs.lemmas.Bool.{cases_eq, cases_lt, not-false, and_from, and_parts}
use Rattle.std.proofs.lemmas.List.{get_or-set_same, get_or-set_other, length-set}
use Rattle.std.proofs.Math.ListN.{get_or-eq_default}
use Rattle.std.specs.Prelude.{◌↔◌, if◌then◌else◌, IsNone}
use Rattle.std.specs.List.{list_any}
use Rattle.std.specs.FinMap as map
use Rattle.sim_time.specs.declared.key.Key.{Key}
use Rattle.sim_time.specs.declared.limits.TheConstants.{LATEST_END}
use Rattle.packet_chain.specs.declared.packet.Packet.{Packet}
use Rattle.packet_chain.specs.declared.packet.Kind.TheVariants.{Data}
use Rattle.scenario_image.specs.declared.parts.ScenarioParts.{ScenarioParts}
use Rattle.scenario_image.specs.Scenario.{IsScenario}
use Rattle.aqm.specs.Queue.{waiting_in}
use Rattle.port.specs.declared.acts.Act.{Act}
use Rattle.port.specs.declared.acts.Act.TheVariants.{Tx, Dropped}
use Rattle.port.specs.Port.{taken}
use Rattle.node_core.specs.declared.event.Event.{Event}
use Rattle.node_core.specs.declared.event.Event.TheVariants.{Start, Free, Arrive}
use Rattle.node_core.specs.Part.{LinkState, PartState, link_at, no_link}
use Rattle.node_core.specs.Row.{Effect}
use Rattle.node_core.specs.TraceLine.{TraceLine}
use Rattle.tournament.proofs.Maps.{same_some}
use Rattle.table_run.specs.State.{State, part_at, no_part, effect_of, stepped}
use Rattle.table_run.specs.Sound.{IsSoundAt}
use Rattle.table_run.proofs.Due.{IsDue, is_due}
use Rattle.table_run.proofs.Runs.{of_step}
use Rattle.table_run.proofs.Moved.{IsMoved, is_moved, node_there, links_same}
use Rattle.table_run.proofs.Rows.{IsRow}
use Rattle.table_run.proofs.RowLinks.{sound_link}
use Rattle.table_run.proofs.Dispatch.{HasRow, has_row}
use Rattle.table_run.proofs.Steps.{Kept, event_keeps}
use Rattle.table_run.proofs.RunLaws.{sound_run}
use Rattle.net_machine.specs.Run.{Reached, IsRun, Stepped}
use Rattle.flow_waits.specs.Stalled.{sender_of, is_some_unfinished, waits_at, is_waiting, is_start_of, start_due, is_arrival_of, is_under_way, is_stalled, becomes_stalled, is_drop_of, may_stall, is_stalled_by_drop, some_stalls}
use Rattle.flow_waits.specs.Laws.{StallsAreFound}
use Rattle.trace_text.specs.DumpParts.{has_waiting}
use Rattle.flow_waits.proofs.Any.{any_place, any_at, any_pends, pends_any}
use Rattle.flow_waits.proofs.Totals.{same_total, goes_on, still_finished}
use Rattle.flow_waits.proofs.Waiting.{is_of, Holds, WaitsAt, IdleEmpty, AfterRow, waits_on, goes, is_dropped, row_keeps, drop_waited}
use Rattle.flow_waits.proofs.Pending.{arrival_stays, start_stays, leaving_pends}

-- the start of a flow is pending where it is among what is pending
any_start : (flow : ℕ) (es : List (Key × Event)) → is_none (start_due flow es) ≡ not (list_any (λ (entry : Key × Event). is_start_of flow entry.1) es)
any_start flow [] = refl
any_start flow (e ∷ es) =
    elim (is_start_of flow e.1) as (λ b. is_none (if b then Some e.0.time else start_due flow es) ≡ not (b || list_any (λ (entry : Key × Event). is_start_of flow entry.1) es)) [ true ↦ refl | false ↦ any_start flow es ]

-- a packet of a flow waits at a link of a node
pub record IsWaitingAt (flow : ℕ) (s : State) : Type 0 where
  pub node : ℕ
  pub index : ℕ
  pub there : node < length s.parts
  pub waits : WaitsAt flow (part_at s node) index

waiting_place : (flow : ℕ) (s : State) → is_waiting flow s.parts ≡ true → IsWaitingAt flow s
waiting_place flow s e =
    let at = any_place (waits_at flow) s.parts no_part e in
    let link = any_place (has_waiting flow) (part_at s at.index).links no_link at.passes in
    record { node = at.index; index = link.index; there = at.within; waits = record { within = link.within; holds = link.passes } }

place_waiting : (flow : ℕ) (s : State) → IsWaitingAt flow s → is_waiting flow s.parts ≡ true
place_waiting flow s w = any_at (waits_at flow) s.parts no_part w.node w.there (any_at (has_waiting flow) (part_at s w.node).links no_link w.index w.waits.within w.waits.holds)

-- what keeps a flow from being stalled, before an event and after it
no_sender : (u w n c : Bool) → u ≡ false → ((u && not w) && (n && not c)) ≡ false
no_sender u w n c e = ap (λ x. (x && not w) && (n && not c)) e

one_waits : (u w n c : Bool) → w ≡ true → ((u && not w) && (n && not c)) ≡ false
one_waits true w n c e = ap (λ x. not x && (n && not c)) e
one_waits false w n c e = refl

one_starts : (u w n c : Bool) → n ≡ false → ((u && not w) && (n && not c)) ≡ false
one_starts true false n c e = ap (λ x. x && not c) e
one_starts _ _ n c e = refl

one_comes : (u w n c : Bool) → c ≡ true → ((u && not w) && (n && not c)) ≡ false
one_comes true false true c e = ap not e
one_comes _ _ _ c e = refl

by_facts : (u w n c u' w' n' c' : Bool) → (u ≡ false → u' ≡ false) → (w ≡ true → (w' ≡ true) ⊎ (c' ≡ true)) → (n ≡ false → n' ≡ false) → (c ≡ true → c' ≡ true)
    → ((u && not w) && (n && not c)) ≡ false → ((u' && not w') && (n' && not c')) ≡ false
by_facts false w n c u' w' n' c' a b d f e = no_sender u' w' n' c' (a refl)
by_facts true true n c u' w' n' c' a b d f e = ⊎_elim (λ (g : w' ≡ true). one_waits u' w' n' c' g) (λ (g : c' ≡ true). one_comes u' w' n' c' g) (b refl)
by_facts true false false c u' w' n' c' a b d f e = one_starts u' w' n' c' (d refl)
by_facts true false true true u' w' n' c' a b d f e = one_comes u' w' n' c' (f refl)
by_facts true false true false u' w' n' c' a b d f e = absurd (true≢false e)

by_event : (may old new : Bool) → (may ≡ true → old ≡ false) → (may ≡ false → old ≡ false → new ≡ false) → (not old && new) ≡ (may && new)
by_event true old new own rest = ap (λ x. not x && new) (own refl)
by_event false true new own rest = refl
by_event false false new own rest = rest refl refl

module _ (p : ScenarioParts) (is_scenario : IsScenario p) (lines : List TraceLine) (now : ℕ) (s : State) (S : IsSoundAt p lines now s) (k : Key) (v : Event) (due : IsDue s k v) (moment : k.time ≤ LATEST_END) (flow : ℕ) where
  abbrev effect : Effect
  effect = effect_of s (k, v)

  abbrev t : State
  t = stepped s k effect

  abbrev part : PartState
  part = part_at s k.node

  has : HasRow p s k v
  has = has_row p is_scenario lines now s k S moment v due (S.belongs k v due.pending)

  R : IsRow p s k v has.shape t
  R = subst (λ (e : Effect). IsRow p s k v has.shape (stepped s k e)) (sym has.effect_is) has.row

  M : IsMoved s k has.shape t
  M = subst (λ (e : Effect). IsMoved s k has.shape (stepped s k e)) (sym has.effect_is) (is_moved s k has.shape has.row.within)

  there : k.node < length s.parts
  there = node_there s k.node has.shape.index has.row.within

  nodes : k.node < length p.nodes
  nodes = subst (λ n. k.node < n) S.nodes_are there

  kept : Kept p lines s k v effect
  kept = event_keeps p is_scenario lines now s k v S due moment

  -- the node of the event, afterwards
  here_after : part_at t k.node ≡ effect.part
  here_after = get_or-set_same s.parts k.node effect.part no_part there

  idle : IdleEmpty part
  idle index within none = (sound_link p is_scenario lines now s S k.node index nodes within).idle_empty (subst IsNone (sym none) refl)

  -- a packet that is under way is so until it arrives
  under_way_on : (q : Key) (x : Packet) → map.get s.pending q ≡ Some (Arrive x) → q ≢ k → map.get t.pending q ≡ Some (Arrive x)
  under_way_on = arrival_stays p is_scenario lines now s t k v has.shape S due nodes M R

  comes_on : may_stall flow v effect.acts ≡ false → is_under_way flow (map.entries s.pending) ≡ true → is_under_way flow (map.entries t.pending) ≡ true
  comes_on not_own e =
      let at = any_pends (is_arrival_of flow) s.pending e in
      let (x, is, its) = of_arrival at.event at.passes in
      let here : map.get s.pending at.key ≡ Some (Arrive x) = at.there ∙ ap (λ (w : Event). Some w) is in
      let other : at.key ≢ k = λ same.
      let due_is : v ≡ Arrive x = same_some v (Arrive x) (sym due.pending ∙ ap (map.get s.pending) (sym same) ∙ here) in
      true≢false (sym (ap (λ (w : Event). may_stall flow w effect.acts) due_is ∙ its) ∙ not_own) in
      pends_any (is_arrival_of flow) t.pending at.key (Arrive x) (under_way_on at.key x here other) its
    where
      of_arrival : (w : Event) → is_arrival_of flow w ≡ true → (x : Packet) × (w ≡ Arrive x) × ((x.flow == flow) ≡ true)
      of_arrival (Arrive x) e = (x, refl, e)
      of_arrival _ e = absurd (true≢false (sym e))

  starts_on : may_stall flow v effect.acts ≡ false → is_none (start_due flow (map.entries s.pending)) ≡ false → is_none (start_due flow (map.entries t.pending)) ≡ false
  starts_on not_own e =
      let at = any_pends (is_start_of flow) s.pending (not-false _ (sym (any_start flow (map.entries s.pending)) ∙ e)) in
      let here : map.get s.pending at.key ≡ Some (Start flow) = at.there ∙ ap (λ (w : Event). Some w) (of_start at.event at.passes) in
      let its : (flow == flow) ≡ true = eq-eqb flow flow refl in
      let other : at.key ≢ k = λ same.
      let due_is : v ≡ Start flow = same_some v (Start flow) (sym due.pending ∙ ap (map.get s.pending) (sym same) ∙ here) in
      true≢false (sym (ap (λ (w : Event). may_stall flow w effect.acts) due_is ∙ its) ∙ not_own) in
      any_start flow (map.entries t.pending) ∙ ap not (pends_any (is_start_of flow) t.pending at.key (Start flow) (start_stays p is_scenario lines now s t k v has.shape S due nodes M R at.key flow here other) its)
    where
      of_start : (w : Event) → is_start_of flow w ≡ true → w ≡ Start flow
      of_start (Start own) e = ap Start (eqb-true own flow e)
      of_start _ e = absurd (true≢false (sym e))

  waits_here : may_stall flow v effect.acts ≡ false → (index : ℕ) → WaitsAt flow part index → (is_waiting flow t.parts ≡ true) ⊎ (is_under_way flow (map.entries t.pending) ≡ true)
  waits_here not_own index W = after (row_keeps flow part index W idle k v)
    where
      after : AfterRow flow v index effect → (is_waiting flow t.parts ≡ true) ⊎ (is_under_way flow (map.entries t.pending) ≡ true)
      after (waits_on holds) = inl (place_waiting flow t (record {
        node = k.node;
        index = index;
        there = subst (λ n. k.node < n) (sym (length-set s.parts k.node effect.part)) there;
        waits = record {
          within = subst (λ n. index < n) (sym (links_same s t k has.shape M R.within k.node)) W.within;
          holds = subst (λ (x : PartState). Holds flow (link_at x.links index).port.queue) (sym here_after) holds;
        };
      }))
      after (goes l) = let pends = leaving_pends s k effect l.0 l.1 in inr (pends_any (is_arrival_of flow) t.pending pends.0 (Arrive l.0.departure.packet) pends.1 l.2)
      after (is_dropped e) = absurd (true≢false (sym e ∙ not_own))

  waits_elsewhere : (w : IsWaitingAt flow s) → w.node ≢ k.node → is_waiting flow t.parts ≡ true
  waits_elsewhere w other =
      place_waiting flow t (record {
        node = w.node;
        index = w.index;
        there = subst (λ n. w.node < n) (sym (length-set s.parts k.node effect.part)) w.there;
        waits = subst (λ (x : PartState). WaitsAt flow x w.index) (sym (get_or-set_other s.parts k.node w.node effect.part no_part other)) w.waits;
      })

  waits_or_comes : may_stall flow v effect.acts ≡ false → is_waiting flow s.parts ≡ true → (is_waiting flow t.parts ≡ true) ⊎ (is_under_way flow (map.entries t.pending) ≡ true)
  waits_or_comes not_own e =
      let w = waiting_place flow s e in
      ⊎_elim
      (λ (same : w.node ≡ k.node). waits_here not_own w.index (subst (λ n. WaitsAt flow (part_at s n) w.index) same w.waits))
      (λ (other : w.node ≢ k.node). inl (waits_elsewhere w other))
      (cases_eq w.node k.node)

  finished_on : is_some_unfinished (sender_of flow s.parts) ≡ false → is_some_unfinished (sender_of flow t.parts) ≡ false
  finished_on = still_finished flow s.parts k.node effect.part no_part (goes_on flow part.role effect.part.role kept.rises (same_total part k v))

  -- by another event no flow becomes stalled
  not_stalled_on : may_stall flow v effect.acts ≡ false → is_stalled flow s ≡ false → is_stalled flow t ≡ false
  not_stalled_on not_own =
      by_facts (is_some_unfinished (sender_of flow s.parts)) (is_waiting flow s.parts) (is_none (start_due flow (map.entries s.pending))) (is_under_way flow (map.entries s.pending))
      (is_some_unfinished (sender_of flow t.parts)) (is_waiting flow t.parts) (is_none (start_due flow (map.entries t.pending))) (is_under_way flow (map.entries t.pending))
      finished_on (waits_or_comes not_own) (starts_on not_own) (comes_on not_own)

  -- a link that drops a packet of the flow had it waiting
  drop_waits : (number : ℕ) → list_any (is_drop_of flow) (taken k.time (link_at part.links number).port).acts ≡ true → is_waiting flow s.parts ≡ true
  drop_waits number e =
      let holds = drop_waited flow k.time (link_at part.links number).port e in
      ⊎_elim
      (λ (within : number < length part.links). place_waiting flow s (record { node = k.node; index = number; there = there; waits = record { within = within; holds = holds } }))
      (λ (past : length part.links ≤ number). absurd (true≢false (sym (sym (ap (λ (l : LinkState). list_any (is_of flow) (waiting_in l.port.queue)) (get_or-eq_default part.links no_link past)) ∙ holds))))
      (cases_lt number (length part.links))

  -- before an event of its own the flow is not stalled
  not_stalled_before : may_stall flow v effect.acts ≡ true → is_stalled flow s ≡ false
  not_stalled_before = by v refl
    where
      by : (w : Event) → v ≡ w → may_stall flow w (effect_of s (k, v)).acts ≡ true → is_stalled flow s ≡ false
      by (Start own) is e =
          one_starts (is_some_unfinished (sender_of flow s.parts)) (is_waiting flow s.parts) (is_none (start_due flow (map.entries s.pending))) (is_under_way flow (map.entries s.pending))
          (any_start flow (map.entries s.pending) ∙ ap not (pends_any (is_start_of flow) s.pending k (Start own) (due.pending ∙ ap (λ (w : Event). Some w) is) e))
      by (Free link) is e =
          one_waits (is_some_unfinished (sender_of flow s.parts)) (is_waiting flow s.parts) (is_none (start_due flow (map.entries s.pending))) (is_under_way flow (map.entries s.pending))
          (drop_waits (k.number - 3) (sym (ap (λ (w : Event). list_any (is_drop_of flow) (effect_of s (k, w)).acts) is) ∙ e))
      by (Arrive x) is e =
          one_comes (is_some_unfinished (sender_of flow s.parts)) (is_waiting flow s.parts) (is_none (start_due flow (map.entries s.pending))) (is_under_way flow (map.entries s.pending))
          (pends_any (is_arrival_of flow) s.pending k (Arrive x) (due.pending ∙ ap (λ (w : Event). Some w) is) e)
      by _ is e = absurd (true≢false (sym e))

  found_here : becomes_stalled flow s t ≡ (may_stall flow v effect.acts && is_stalled flow t)
  found_here = by_event (may_stall flow v effect.acts) (is_stalled flow s) (is_stalled flow t) not_stalled_before not_stalled_on

pub stalls_are_found : StallsAreFound
stalls_are_found p n lines s u line flow is_scenario comes stepped_to =
    let sound = sound_run p n lines s is_scenario comes in
    of_step s line u stepped_to (λ k v is new_is line_is.
    let first = is_due s k v is in
    let moment : k.time ≤ LATEST_END = (let a = first.in_time in let b = sound.sound.end_is in let c = is_scenario.in_limits.end_range.1 in omega (arith, a, b, c)) in
    subst (λ (x : TraceLine × State). becomes_stalled flow s x.1 ≡ (may_stall flow x.0.event x.0.acts && is_stalled flow x.1)) (λ i. (sym line_is i, sym new_is i))
    (found_here p is_scenario lines sound.moment s sound.sound k v first moment flow))

-- a packet that is under way is so after a step, unless it arrives by it
pub arrival_on : (before after : Reached) (line : TraceLine) (q : Key) (x : Packet) → IsRun before → Stepped before (Some line) after → map.get before.state.pending q ≡ Some (Arrive x) → q ≢ line.key → map.get after.state.pending q ≡ Some (Arrive x)
arrival_on before after line q x is stepped_to there other =
    let s = before.state in
    let sound = sound_run is.scenario before.position is.lines s is.is_scenario is.is in
    of_step s line after.state stepped_to.0 (λ k v due_is new_is line_is.
    let first = is_due s k v due_is in
    let moment : k.time ≤ LATEST_END = (let a = first.in_time in let b = sound.sound.end_is in let c = is.is_scenario.in_limits.end_range.1 in omega (arith, a, b, c)) in
    let key : line.key ≡ k = ap (λ (l : TraceLine). l.key) line_is in
    ap (λ (u : State). map.get u.pending q) new_is
    ∙ under_way_on is.scenario is.is_scenario is.lines sound.moment s sound.sound k v first moment 0 q x there (λ same. other (same ∙ sym key)))

-- a flow with a packet under way is not stalled
pub moving : (flow : ℕ) (state : State) (q : Key) (x : Packet) → map.get state.pending q ≡ Some (Arrive x) → (x.flow == flow) ≡ true → is_stalled flow state ≡ false
moving flow state q x there its =
    one_comes (is_some_unfinished (sender_of flow state.parts)) (is_waiting flow state.parts) (is_none (start_due flow (map.entries state.pending))) (is_under_way flow (map.entries state.pending))
    (pends_any (is_arrival_of flow) state.pending q (Arrive x) there its)

-- the same of a net and the net after a step
pub found_by_step : (before after : Reached) (line : TraceLine) (flow : ℕ) → IsRun before → Stepped before (Some line) after → becomes_stalled flow before.state after.state ≡ (may_stall flow line.event line.acts && is_stalled flow after.state)
found_by_step before after line flow is stepped_to = stalls_are_found is.scenario before.position is.lines before.state after.state line flow is.is_scenario is.is stepped_to.0

-- a flow for which an event may do so, and which is stalled after it
record Stalls (event : Event) (acts : List Act) (state : State) : Type 0 where
  flow : ℕ
  may : may_stall flow event acts ≡ true
  stalled : is_stalled flow state ≡ true

no_act : Act
no_act = Tx 0 (record { flow = 0; kind = Data; number = 0; bytes = 0 })

by_drop : (state : State) (act : Act) → is_stalled_by_drop state act ≡ true → (flow : ℕ) × (is_drop_of flow act ≡ true) × (is_stalled flow state ≡ true)
by_drop state (Tx link packet) e = absurd (true≢false (sym e))
by_drop state (Dropped link reason packet) e = (packet.flow, eq-eqb packet.flow packet.flow refl, e)

drop_is : (state : State) (flow : ℕ) (act : Act) → is_drop_of flow act ≡ true → is_stalled flow state ≡ true → is_stalled_by_drop state act ≡ true
drop_is state flow (Tx link packet) its e = absurd (true≢false (sym its))
drop_is state flow (Dropped link reason packet) its e = ap (λ n. is_stalled n state) (eqb-true packet.flow flow its) ∙ e

some_stalled : (event : Event) (acts : List Act) (state : State) → some_stalls event acts state ≡ true → Stalls event acts state
some_stalled (Start own) acts state e = record { flow = own; may = eq-eqb own own refl; stalled = e }
some_stalled (Free link) acts state e =
    let at = any_place (is_stalled_by_drop state) acts no_act e in
    let found = by_drop state (get_or acts at.index no_act) at.passes in
    record { flow = found.0; may = any_at (is_drop_of found.0) acts no_act at.index at.within found.1; stalled = found.2 }
some_stalled (Arrive x) acts state e = record { flow = x.flow; may = eq-eqb x.flow x.flow refl; stalled = e }
some_stalled _ acts state e = absurd (true≢false (sym e))

stalls_some : (flow : ℕ) (event : Event) (acts : List Act) (state : State) → may_stall flow event acts ≡ true → is_stalled flow state ≡ true → some_stalls event acts state ≡ true
stalls_some flow (Start own) acts state its e = ap (λ n. is_stalled n state) (eqb-true own flow its) ∙ e
stalls_some flow (Free link) acts state its e =
    let at = any_place (is_drop_of flow) acts no_act its in
    any_at (is_stalled_by_drop state) acts no_act at.index at.within (drop_is state flow (get_or acts at.index no_act) at.passes e)
stalls_some flow (Arrive x) acts state its e = ap (λ n. is_stalled n state) (eqb-true x.flow flow its) ∙ e
stalls_some flow _ acts state its e = absurd (true≢false (sym its))

-- some flow becomes stalled
pub some_found : (before after : Reached) (line : TraceLine) → IsRun before → Stepped before (Some line) after
    → (some_stalls line.event line.acts after.state ≡ true) ↔ ((flow : ℕ) × (becomes_stalled flow before.state after.state ≡ true))
some_found before after line is stepped_to = (
  λ e.
      let found = some_stalled line.event line.acts after.state e in
      (found.flow, found_by_step before after line found.flow is stepped_to ∙ and_from (may_stall found.flow line.event line.acts) (is_stalled found.flow after.state) found.may found.stalled),
  λ (one : (flow : ℕ) × (becomes_stalled flow before.state after.state ≡ true)).
      let two = and_parts (may_stall one.0 line.event line.acts) (is_stalled one.0 after.state) (sym (found_by_step before after line one.0 is stepped_to) ∙ one.1) in
      stalls_some one.0 line.event line.acts after.state two.0 two.1,
)

-- Arrivals and starts that are pending are so after another event, and a packet that leaves is under way.
use Rattle.std.proofs.Common.{◌≡◌, ◌≢◌, ℕ, ◌+◌, ◌<◌, List, [], ◌∷◌, ◌++◌, length, refl, ap, ◌∙◌, Option, Some, None, arith}
use Rattle.std.specs.List.{AllByRecursion}
use Rattle.std.specs.FinMap as map
use Rattle.sim_time.specs.declared.key.Key.{Key}
use Rattle.packet_chain.specs.declared.packet.Packet.{Packet}
use Rattle.scenario_image.specs.declared.parts.ScenarioParts.{ScenarioParts}
use Rattle.scenario_image.specs.Scenario.{IsScenario}
use Rattle.port.specs.Port.{Departure}
use Rattle.node_core.specs.declared.timer.Timer.{Timer}
use Rattle.node_core.specs.declared.timer.Timer.TheVariants.{Free as BecomesFree}
use Rattle.node_core.specs.declared.event.Event.{Event}
use Rattle.node_core.specs.declared.event.Event.TheVariants.{Start, Arrive}
use Rattle.node_core.specs.Timers.{timer_key, timer_number}
use Rattle.node_core.specs.Part.{LinkState, link_at}
use Rattle.node_core.specs.Pending.{Events, EventChange}
use Rattle.node_core.specs.TraceLine.{TraceLine}
use Rattle.node_core.specs.Row.{Effect, Leaving, home_changes, sent_away, arrives}
use Rattle.tournament.specs.Keyed.{apply}
use Rattle.tournament.proofs.Maps.{get_here, get_other}
use Rattle.table_run.specs.State.{State, part_at, stepped}
use Rattle.table_run.specs.Sound.{IsSoundAt}
use Rattle.table_run.proofs.Due.{IsDue}
use Rattle.table_run.proofs.Changes.{apply-append, applied_elsewhere, row_changes, coming}
use Rattle.table_run.proofs.Moved.{Shape, IsMoved}
use Rattle.table_run.proofs.Rows.{IsRow}
use Rattle.table_run.proofs.KeptEvents.{behind}

-- what holds of the key of each change of a row
each_key : (P : Key → Type 0) (node : ℕ) (timer : Timer) (event : Event) (old new : Option ℕ) (links : List LinkState) (index : ℕ) (departure : Option Departure)
    → ((time : ℕ) → P (timer_key node timer time)) → ((time : ℕ) → P (timer_key node (BecomesFree index) time)) → ((d : Departure) → departure ≡ Some d → P (coming links index d))
    → AllByRecursion (λ (c : EventChange). P c.0) (row_changes node timer event old new links index departure)
each_key P node timer event None None links index None a b c = tt
each_key P node timer event None None links index (Some d) a b c = (b d.free, (c d refl, tt))
each_key P node timer event None (Some u) links index None a b c = (a u, tt)
each_key P node timer event None (Some u) links index (Some d) a b c = (a u, (b d.free, (c d refl, tt)))
each_key P node timer event (Some x) None links index None a b c = (a x, tt)
each_key P node timer event (Some x) None links index (Some d) a b c = (a x, (b d.free, (c d refl, tt)))
each_key P node timer event (Some x) (Some u) links index None a b c = (a x, (a u, tt))
each_key P node timer event (Some x) (Some u) links index (Some d) a b c = (a x, (a u, (b d.free, (c d refl, tt))))

module _ (p : ScenarioParts) (is_scenario : IsScenario p) (lines : List TraceLine) (now : ℕ) (s t : State) (k : Key) (v : Event) (r : Shape) (S : IsSoundAt p lines now s) (due : IsDue s k v) (nodes : k.node < length p.nodes) (M : IsMoved s k r t) (R : IsRow p s k v r t) where
  -- an event under a key that no change is under
  stays : (q : Key) (w : Event) → map.get s.pending q ≡ Some w → q ≢ k → ((time : ℕ) → q ≢ timer_key k.node r.timer time) → ((time : ℕ) → q ≢ timer_key k.node (BecomesFree r.index) time)
      → ((d : Departure) → r.step.departure ≡ Some d → q ≢ coming (part_at t k.node).links r.index d) → map.get t.pending q ≡ Some w
  stays q w there other a b c =
      let links = (part_at t k.node).links in
      ap (λ (m : Events). map.get m q) M.pending_is
      ∙ applied_elsewhere q (row_changes k.node r.timer r.event r.old r.new links r.index r.step.departure) (map.remove s.pending k)
      (each_key (λ key. q ≢ key) k.node r.timer r.event r.old r.new links r.index r.step.departure a b c)
      ∙ get_other s.pending k None q other ∙ there

  pub arrival_stays : (q : Key) (x : Packet) → map.get s.pending q ≡ Some (Arrive x) → q ≢ k → map.get t.pending q ≡ Some (Arrive x)
  arrival_stays q x there other =
      let over = (S.belongs q (Arrive x) there).comes_over in
      let no_timer : (number : ℕ) → q.source ≡ 0 → ⊥ = λ number zero. omega (arith, over, zero) in
      stays q (Arrive x) there other (λ time same. no_timer 0 (ap (λ (j : Key). j.source) same)) (λ time same. no_timer 0 (ap (λ (j : Key). j.source) same))
      (λ d is same.
      let before = (behind p is_scenario lines now s t k v r S due nodes M R d is q x there (ap (λ (j : Key). j.source) same)).0 in
      let number = ap (λ (j : Key). j.number) same in
      omega (arith, before, number))

  pub start_stays : (q : Key) (flow : ℕ) → map.get s.pending q ≡ Some (Start flow) → q ≢ k → map.get t.pending q ≡ Some (Start flow)
  start_stays q flow there other =
      let key = (S.belongs q (Start flow) there).is_key in
      let source : q.source ≡ 0 = ap (λ (j : Key). j.source) key in
      let number : q.number ≡ 0 = ap (λ (j : Key). j.number) key in
      stays q (Start flow) there other
      (λ time same. let its : q.number ≡ timer_number r.timer = ap (λ (j : Key). j.number) same in let least = R.timer_least in omega (arith, its, number, least))
      (λ time same. let its : q.number ≡ 3 + r.index = ap (λ (j : Key). j.number) same in omega (arith, its, number))
      (λ d is same. let its : q.source ≡ (link_at (part_at t k.node).links r.index).port.link + 1 = ap (λ (j : Key). j.source) same in omega (arith, its, source))

-- the packet that leaves is under way
pub leaving_pends : (s : State) (k : Key) (effect : Effect) (l : Leaving) → effect.leaving ≡ Some l → (q : Key) × (map.get (stepped s k effect).pending q ≡ Some (Arrive l.departure.packet))
leaving_pends s k effect l is =
    let links = effect.part.links in
    let home = home_changes k.node effect in
    let change = arrives links l in
    let rest = map.remove s.pending k in (
      change.0,
      ap (λ (o : Option Leaving). map.get (apply (home ++ sent_away links o) rest) change.0) is
          ∙ ap (λ (m : Events). map.get m change.0) (apply-append home (change ∷ []) rest)
          ∙ get_here (apply home rest) change.0 change.1,
    )

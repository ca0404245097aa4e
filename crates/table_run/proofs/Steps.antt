-- What each event that is due in a sound state keeps and makes.
use Rattle.std.proofs.Common.{◌≡◌, ℕ, ◌+◌, ◌<◌, ◌≤◌, List, [], ◌∷◌, ◌++◌, length, refl, sym, ap, subst, ◌∙◌, Option, Some, None, arith, inl, inr}
use Rattle.std.specs.List.{AllByRecursion}
use Rattle.std.specs.Option.{IfSome}
use Rattle.sim_time.specs.declared.key.Key.{Key}
use Rattle.sim_time.specs.declared.limits.TheConstants.{LATEST_END}
use Rattle.scenario_image.specs.declared.parts.ScenarioParts.{ScenarioParts}
use Rattle.scenario_image.specs.Scenario.{IsScenario}
use Rattle.port.specs.Port.{Departure}
use Rattle.node_core.specs.declared.timer.Timer.{Timer}
use Rattle.node_core.specs.declared.timer.Timer.TheVariants.{Free as BecomesFree}
use Rattle.node_core.specs.declared.event.Event.{Event}
use Rattle.node_core.specs.declared.event.Event.TheVariants.{Free, Arrive}
use Rattle.node_core.specs.Timers.{timer_key}
use Rattle.node_core.specs.Part.{LinkState, link_at}
use Rattle.node_core.specs.Pending.{EventChange}
use Rattle.node_core.specs.Row.{Effect, changes_of}
use Rattle.node_core.specs.TraceLine.{TraceLine}
use Rattle.table_run.specs.State.{State, part_at, effect_of, stepped, line_of}
use Rattle.table_run.specs.Sound.{IsSoundAt}
use Rattle.table_run.specs.Laws.{IsDueSoon, IsMadeAt, RoleRises}
use Rattle.table_run.proofs.Due.{IsDue}
use Rattle.table_run.proofs.Changes.{row_changes, coming, rto_timer, busy, arrival}
use Rattle.table_run.proofs.Moved.{Shape, shaped, is_moved, link_before, node_there, number_same}
use Rattle.table_run.proofs.Rows.{IsRow}
use Rattle.table_run.proofs.KeptEvents.{new_soon, its_part, leaves_with, changed_here}
use Rattle.table_run.proofs.KeptNodes.{sound_after}
use Rattle.table_run.proofs.Dispatch.{has_row}

-- what holds of each change of a row
all_changes : (P : EventChange → Type 0) (node : ℕ) (timer : Timer) (event : Event) (old new : Option ℕ) (links : List LinkState) (index : ℕ) (departure : Option Departure)
    → ((u : ℕ) → old ≡ Some u → P (timer_key node timer u, None)) → ((u : ℕ) → new ≡ Some u → P (timer_key node timer u, Some event))
    → ((d : Departure) → departure ≡ Some d → P (timer_key node (BecomesFree index) d.free, Some (Free (link_at links index).port.link))) → ((d : Departure) → departure ≡ Some d → P (coming links index d, Some (Arrive d.packet)))
    → AllByRecursion P (row_changes node timer event old new links index departure)
all_changes P node timer event None None links index None a b c e = tt
all_changes P node timer event None None links index (Some d) a b c e = (c d refl, (e d refl, tt))
all_changes P node timer event None (Some u) links index None a b c e = (b u refl, tt)
all_changes P node timer event None (Some u) links index (Some d) a b c e = (b u refl, (c d refl, (e d refl, tt)))
all_changes P node timer event (Some x) None links index None a b c e = (a x refl, tt)
all_changes P node timer event (Some x) None links index (Some d) a b c e = (a x refl, (c d refl, (e d refl, tt)))
all_changes P node timer event (Some x) (Some u) links index None a b c e = (a x refl, (b u refl, tt))
all_changes P node timer event (Some x) (Some u) links index (Some d) a b c e = (a x refl, (b u refl, (c d refl, (e d refl, tt))))

-- what an event that is due keeps and makes
pub record Kept (p : ScenarioParts) (lines : List TraceLine) (s : State) (k : Key) (v : Event) (effect : Effect) : Type 0 where
  pub sound : IsSoundAt p (lines ++ line_of (k, v) effect ∷ []) k.time (stepped s k effect)
  pub soon : AllByRecursion (λ (c : EventChange). IfSome c.1 (λ _. IsDueSoon k.time c.0)) (changes_of k.node effect)
  pub here : AllByRecursion (IsMadeAt p k) (changes_of k.node effect)
  pub rises : RoleRises (part_at s k.node).role effect.part.role
  pub within : k.node < length s.parts

module _ (p : ScenarioParts) (is_scenario : IsScenario p) (lines : List TraceLine) (now : ℕ) (s : State) (k : Key) (v : Event) (S : IsSoundAt p lines now s) (due : IsDue s k v) where
  shape_keeps : (r : Shape) → IsRow p s k v r (stepped s k (shaped (part_at s k.node) k r)) → Kept p lines s k v (shaped (part_at s k.node) k r)
  shape_keeps r R =
      let effect = shaped (part_at s k.node) k r in
      let t = stepped s k effect in
      let M = is_moved s k r R.within in
      let there = node_there s k.node r.index R.within in
      let nodes : k.node < length p.nodes = subst (λ n. k.node < n) S.nodes_are there in
      let links_t = (part_at t k.node).links in
      let part = its_part p is_scenario lines now s t k v r S due nodes M R in
      record {
        sound = sound_after p is_scenario lines now s t k v r S due nodes M R (line_of (k, v) effect) refl refl;
        soon = subst (λ ls. AllByRecursion (λ (c : EventChange). IfSome c.1 (λ _. IsDueSoon k.time c.0)) (row_changes k.node r.timer r.event r.old r.new ls r.index r.step.departure)) M.here_links
            (all_changes (λ (c : EventChange). IfSome c.1 (λ _. IsDueSoon k.time c.0)) k.node r.timer r.event r.old r.new links_t r.index r.step.departure
            (λ u is. tt)
            (λ u is. new_soon p is_scenario lines now s t k v r S due nodes M R (timer_key k.node r.timer u) r.event (rto_timer u is refl refl))
            (λ d is. new_soon p is_scenario lines now s t k v r S due nodes M R (timer_key k.node (BecomesFree r.index) d.free) (Free (link_at links_t r.index).port.link) (busy d is refl refl))
            (λ d is. new_soon p is_scenario lines now s t k v r S due nodes M R (coming links_t r.index d) (Arrive d.packet) (arrival d is refl refl)));
        here = subst (λ ls. AllByRecursion (IsMadeAt p k) (row_changes k.node r.timer r.event r.old r.new ls r.index r.step.departure)) M.here_links
            (all_changes (IsMadeAt p k) k.node r.timer r.event r.old r.new links_t r.index r.step.departure
            (λ u is. inl (refl, refl))
            (λ u is. inl (refl, refl))
            (λ d is. inl (refl, refl))
            (λ d is. let out = leaves_with p is_scenario lines now s t k v r S due nodes M R d is in
            inr (record {
              number = (link_before s k r).port.link;
              link = part.part;
              its_link = part.its_part;
              over = ap (λ n. n + 1) (number_same s t k r M R.within R.moves.stays k.node r.index);
              leaves = part.from_here;
              ends = sym (ap (λ (l : LinkState). l.to) (changed_here p is_scenario lines now s t k v r S due nodes M R) ∙ part.to_is);
              late = (let a = out.later in let b = out.arrival_is in let c = part.delay_is in omega (arith, a, b, c));
            })));
        rises = R.role_rises;
        within = there;
      }

  pub event_keeps : k.time ≤ LATEST_END → Kept p lines s k v (effect_of s (k, v))
  event_keeps moment =
      let has = has_row p is_scenario lines now s k S moment v due (S.belongs k v due.pending) in
      subst (Kept p lines s k v) (sym has.effect_is) (shape_keeps has.shape has.row)

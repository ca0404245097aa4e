-- The laws of every run: each state is sound, keys rise, and what an event makes is soon and near.
use Rattle.std.proofs.Common.{◌≡◌, ◌≢◌, ℕ, zero, suc, ◌<◌, ◌≤◌, List, [], ◌∷◌, ◌++◌, refl, sym, ap, subst, ◌∙◌, Option, Some, None, arith, ⊎_elim}
use Rattle.std.proofs.lemmas.Bool.{cases_lt, cases_eq}
use Rattle.std.proofs.lemmas.List.{get_or-set_same, get_or-set_other}
use Rattle.std.proofs.lemmas.Option.{option_and_then_some}
use Rattle.std.specs.declared.cmp.Ordering.TheVariants.{Less, Equal, Greater}
use Rattle.std.specs.Ordering.{ordering_reverse}
use Rattle.std.specs.Option.{IfSome}
use Rattle.std.specs.FinMap as map
use Rattle.sim_time.specs.declared.key.Key.{Key}
use Rattle.sim_time.specs.Keys.{key_cmp}
use Rattle.sim_time.proofs.Order.{keys_total, exact_keys, earlier_less}
use Rattle.scenario_image.specs.declared.parts.ScenarioParts.{ScenarioParts}
use Rattle.scenario_image.specs.Scenario.{IsScenario}
use Rattle.node_core.specs.declared.event.Event.{Event}
use Rattle.node_core.specs.declared.event.Event.TheVariants.{Arrive}
use Rattle.node_core.specs.declared.role.Role.{Role}
use Rattle.node_core.specs.declared.role.Role.TheVariants.{Sends, Receives, Routes}
use Rattle.node_core.specs.Part.{PartState}
use Rattle.node_core.specs.Pending.{EventChange}
use Rattle.node_core.specs.TraceLine.{TraceLine}
use Rattle.tournament.proofs.Maps.{not_some, same_some}
use Rattle.table_run.specs.State.{State, initial, part_at, no_part, due, effect_of, stepped, line_of, step, one_step_more, run}
use Rattle.table_run.specs.Laws.{IsSoundRun, RunsAreSound, RoutersHaveRoutes, made_by, KeysRise, IsDueSoon, EffectsAreSoon, EffectsAreLocal, RoleRises, NumbersNeverFall}
use Rattle.std.specs.List.{AllByRecursion}
use Rattle.table_run.proofs.Lists.{all_append, all_map}
use Rattle.table_run.proofs.Changes.{of_changed}
use Rattle.table_run.proofs.Due.{is_due}
use Rattle.table_run.proofs.Exits.{has_route}
use Rattle.table_run.proofs.Initial.{each_applied}
use Rattle.table_run.proofs.InitialLaw.{initial_is_sound}
use Rattle.table_run.proofs.RowFlows.{role_rises_itself}
use Rattle.table_run.proofs.Runs.{of_step, of_one_more}
use Rattle.table_run.proofs.Steps.{Kept, event_keeps}

-- the event that is due keeps what is sound
pub kept_by : (p : ScenarioParts) (lines : List TraceLine) (s : State) (k : Key) (v : Event) → IsScenario p → (sound : IsSoundRun p lines s) → due s ≡ Some (k, v) → Kept p lines s k v (effect_of s (k, v))
kept_by p lines s k v is_scenario sound e =
    let first = is_due s k v e in
    event_keeps p is_scenario lines sound.moment s k v sound.sound first (let a = first.in_time in let b = sound.sound.end_is in let c = is_scenario.in_limits.end_range.1 in omega (arith, a, b, c))

sound_step : (p : ScenarioParts) (lines : List TraceLine) (s : State) (line : TraceLine) (new : State) → IsScenario p → IsSoundRun p lines s → step s ≡ Some (line, new) → IsSoundRun p (lines ++ line ∷ []) new
sound_step p lines s line new is_scenario sound e =
    of_step s line new e (λ k v is new_is line_is.
    subst (λ (x : TraceLine × State). IsSoundRun p (lines ++ x.0 ∷ []) x.1) (λ i. (sym line_is i, sym new_is i)) (record { moment = k.time; none_later = later k v (is_due s k v is).pending; sound = (kept_by p lines s k v is_scenario sound is).sound }))
  where
    later : (k : Key) (v : Event) → map.get s.pending k ≡ Some v → AllByRecursion (λ (l : TraceLine). l.key.time ≤ k.time) (lines ++ line_of (k, v) (effect_of s (k, v)) ∷ [])
    later k v there =
        let upto : sound.moment ≤ k.time = sound.sound.not_past k v there in
        all_append (λ (l : TraceLine). l.key.time ≤ k.time) lines (line_of (k, v) (effect_of s (k, v)) ∷ [])
        (all_map (λ (l : TraceLine). l.key.time ≤ sound.moment) (λ (l : TraceLine). l.key.time ≤ k.time) (λ l h. omega (arith, h, upto)) lines sound.none_later) (omega arith, tt)

pub sound_run : RunsAreSound
sound_run p zero lines s is e = subst (λ (q : List TraceLine × State). IsSoundRun p q.0 q.1) (same_some ([], initial p) (lines, s) e) (record { moment = 0; none_later = tt; sound = initial_is_sound p is })
sound_run p (suc n) lines s is e =
    option_and_then_some one_step_more (run (initial p) n) (lines, s) e (λ so_far was now.
    of_one_more so_far lines s now (λ line step_is lines_are. subst (λ ls. IsSoundRun p ls s) (sym lines_are) (sound_step p so_far.0 so_far.1 line s is (sound_run p n so_far.0 so_far.1 is was) step_is)))

pub routers_have_routes : RoutersHaveRoutes
routers_have_routes p n lines s is_scenario e k x there table routes =
    let sound = sound_run p n lines s is_scenario e in
    has_route p lines sound.moment s k sound.sound is_scenario x (sound.sound.belongs k (Arrive x) there) table routes

-- of two keys neither less than the other, they are one
decided : (a b : Key) → key_cmp b a ≢ Less → b ≢ a → key_cmp a b ≡ Less
decided a b not_less other =
    elim (key_cmp a b) as (λ r. key_cmp a b ≡ r → key_cmp a b ≡ Less) [
      | Less ↦ λ e. e
      | Equal ↦ λ e. absurd (other (sym (exact_keys a b e)))
      | Greater ↦ λ e. absurd (not_less (keys_total.antisymm b a ∙ ap ordering_reverse e))
    ] refl

pub keys_rise : KeysRise
keys_rise p n lines s is_scenario e k v is next w next_is =
    let sound = sound_run p n lines s is_scenario e in
    let first = is_due s k v is in
    let kept = kept_by p lines s k v is_scenario sound is in
    let second = is_due (stepped s k (effect_of s (k, v))) next w next_is in
    each_applied (λ q u. key_cmp k q ≡ Less) (made_by s k v) (map.remove s.pending k)
    (all_map (λ (c : EventChange). IfSome c.1 (λ _. IsDueSoon k.time c.0)) (λ (c : EventChange). IfSome c.1 (λ _. key_cmp k c.0 ≡ Less)) (λ c h. at c.0 c.1 h) (made_by s k v) kept.soon)
    (λ q u there. ⊎_elim (λ (h : (q ≡ k) × (None ≡ Some u)). absurd (not_some h.1)) (λ (h : (q ≢ k) × (map.get s.pending q ≡ Some u)). decided k q (first.none_less q u h.1) h.0) (of_changed s.pending k None q u there))
    next w second.pending
  where
    at : (q : Key) (o : Option Event) → IfSome o (λ _. IsDueSoon k.time q) → IfSome o (λ _. key_cmp k q ≡ Less)
    at q None h = h
    at q (Some u) h = earlier_less k q h.0

pub effects_are_soon : EffectsAreSoon
effects_are_soon p n lines s is_scenario e k v is = (kept_by p lines s k v is_scenario (sound_run p n lines s is_scenario e) is).soon

pub effects_are_local : EffectsAreLocal
effects_are_local p n lines s is_scenario e k v is = (kept_by p lines s k v is_scenario (sound_run p n lines s is_scenario e) is).here

rises_on : (a b c : Role) → RoleRises a b → RoleRises b c → RoleRises a c
rises_on (Sends i f) (Sends j g) (Sends k h) x y = (y.0 ∙ x.0, (let a = x.1.una_rises in let b = y.1.una_rises in let c = x.1.high_rises in let d = y.1.high_rises in record { una_rises = omega (arith, a, b); high_rises = omega (arith, c, d) }))
rises_on (Sends i f) (Sends j g) (Receives k h) x y = absurd y
rises_on (Sends i f) (Sends j g) (Routes h) x y = absurd y
rises_on (Sends i f) (Receives j g) c x y = absurd x
rises_on (Sends i f) (Routes g) c x y = absurd x
rises_on (Receives i f) (Sends j g) c x y = absurd x
rises_on (Receives i f) (Receives j g) (Sends k h) x y = absurd y
rises_on (Receives i f) (Receives j g) (Receives k h) x y = (y.0 ∙ x.0, (let a = x.1 in let b = y.1 in omega (arith, a, b)))
rises_on (Receives i f) (Receives j g) (Routes h) x y = absurd y
rises_on (Receives i f) (Routes g) c x y = absurd x
rises_on (Routes f) (Sends j g) c x y = absurd x
rises_on (Routes f) (Receives j g) c x y = absurd x
rises_on (Routes f) (Routes g) (Sends k h) x y = absurd y
rises_on (Routes f) (Routes g) (Receives k h) x y = absurd y
rises_on (Routes f) (Routes g) (Routes h) x y = y ∙ x

-- no node's numbers fall from the one state to the other
abbrev NodesRise : State → State → Type 0
NodesRise s t = (node : ℕ) → RoleRises (part_at s node).role (part_at t node).role

stepped_rises : (p : ScenarioParts) (lines : List TraceLine) (s : State) (k : Key) (v : Event) → IsScenario p → IsSoundRun p lines s → due s ≡ Some (k, v) → NodesRise s (stepped s k (effect_of s (k, v)))
stepped_rises p lines s k v is_scenario sound is node =
    let part = (effect_of s (k, v)).part in
    let kept = kept_by p lines s k v is_scenario sound is in
    ⊎_elim
    (λ (here : node ≡ k.node).
    subst (λ i. RoleRises (part_at s i).role (part_at (stepped s k (effect_of s (k, v))) i).role) (sym here)
    (subst (λ (x : PartState). RoleRises (part_at s k.node).role x.role) (sym (get_or-set_same s.parts k.node part no_part kept.within)) kept.rises))
    (λ (other : node ≢ k.node). subst (λ (x : PartState). RoleRises (part_at s node).role x.role) (sym (get_or-set_other s.parts k.node node part no_part other)) (role_rises_itself (part_at s node).role))
    (cases_eq node k.node)

step_rises : (p : ScenarioParts) (lines : List TraceLine) (s : State) (line : TraceLine) (t : State) → IsScenario p → IsSoundRun p lines s → step s ≡ Some (line, t) → NodesRise s t
step_rises p lines s line t is_scenario sound e = of_step s line t e (λ k v is new_is _ node. subst (λ (x : State). RoleRises (part_at s node).role (part_at x node).role) (sym new_is) (stepped_rises p lines s k v is_scenario sound is node))

same_state : (p : ScenarioParts) (n m : ℕ) (lines more : List TraceLine) (s t : State) → n ≡ m → run (initial p) n ≡ Some (lines, s) → run (initial p) m ≡ Some (more, t) → NodesRise s t
same_state p n m lines more s t same e f node =
    let both = same_some (lines, s) (more, t) (sym e ∙ ap (run (initial p)) same ∙ f) in
    subst (λ (x : State). RoleRises (part_at s node).role (part_at x node).role) (ap (λ (q : List TraceLine × State). q.1) both) (role_rises_itself (part_at s node).role)

pub numbers_never_fall : NumbersNeverFall
numbers_never_fall p n zero lines more s t is below e f = same_state p n zero lines more s t (omega (arith, below)) e f
numbers_never_fall p n (suc m) lines more s t is below e f =
    ⊎_elim
    (λ (before : n < suc m).
    option_and_then_some one_step_more (run (initial p) m) (more, t) f (λ so_far was now.
    of_one_more so_far more t now (λ line step_is _ node.
    rises_on _ _ _ (numbers_never_fall p n m lines so_far.0 s so_far.1 is (omega (arith, before)) e was node) (step_rises p so_far.0 so_far.1 line t is (sound_run p m so_far.0 so_far.1 is was) step_is node))))
    (λ (last : suc m ≤ n). same_state p n (suc m) lines more s t (omega (arith, below, last)) e f)
    (cases_lt n (suc m))

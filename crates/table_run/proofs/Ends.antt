-- Every run ends: an event makes only later ones, so each moment has finitely many.
use Rattle.std.proofs.Common.{◌≡◌, ◌≢◌, ◌<◌, ◌≤◌, ◌+◌, ℕ, zero, suc, List, [], ◌∷◌, ◌++◌, length, filter, Bool, true, false, cond, not, ◌||◌, Option, Some, None, is_some, refl, sym, ap, subst, ◌∙◌, ⊎_elim, arith, true≢false, ltb-false, lt-ltb}
use Rattle.std.specs.Prelude.{nat_lt}
use Rattle.std.specs.List.{AllByRecursion, list_any}
use Rattle.std.specs.Option.{IfSome}
use Rattle.std.proofs.lemmas.Bool.{cases_Bool}
use Rattle.std.specs.FinMap.{get, keys, remove, contains_key-keys}
use Rattle.std.specs.Ordering.{eq_by_cmp}
use Rattle.sim_time.specs.declared.key.Key.{Key}
use Rattle.sim_time.specs.Keys.{key_cmp}
use Rattle.sim_time.proofs.Order.{exact_keys}
use Rattle.node_core.specs.declared.event.Event.{Event}
use Rattle.node_core.specs.Pending.{Events, EventChange}
use Rattle.node_core.specs.TraceLine.{TraceLine}
use Rattle.tournament.specs.Keyed.{least}
use Rattle.tournament.proofs.Maps.{not_some, is_equal, least_is, none_least}
use Rattle.table_run.specs.State.{State, initial, below, due, effect_of, stepped, line_of, run}
use Rattle.table_run.specs.Sound.{EachEvent}
use Rattle.table_run.specs.Laws.{made_by, IsDueSoon, RunsEnd}
use Rattle.table_run.proofs.Lists.{all_map}
use Rattle.table_run.proofs.Changes.{of_changed}
use Rattle.table_run.proofs.Due.{is_due, of_below, least_time}
use Rattle.table_run.proofs.Initial.{each_applied}
use Rattle.table_run.proofs.Runs.{Along, due_steps, run_cons, run_add, run_end, along_step, along_run, along_here}
use Rattle.table_run.proofs.RunLaws.{effects_are_soon}

abbrev same : Key → Key → Bool
same a b = eq_by_cmp key_cmp a b

same_is : (a b : Key) → same a b ≡ true → a ≡ b
same_is a b e = exact_keys a b (is_equal (key_cmp a b) e)

-- what an event sets is later in time
abbrev MakesLater : State → Type 0
MakesLater s = (k : Key) (v : Event) → due s ≡ Some (k, v) → AllByRecursion (λ (c : EventChange). IfSome c.1 (λ _. k.time < c.0.time)) (made_by s k v)

among : Key → List Key → Bool
among q ks = list_any (same q) ks

without : Key → List Key → List Key
without k ks = filter (λ x. not (same k x)) ks

shorter : (k : Key) (ks : List Key) → length (without k ks) ≤ length ks
unfolding without
shorter k [] = omega arith
shorter k (x ∷ ks) = let rest = shorter k ks in elim (same k x) as (λ b. length (cond (not b) (x ∷ without k ks) (without k ks)) ≤ suc (length ks)) [ true ↦ omega (arith, rest) | false ↦ omega (arith, rest) ]

one_less : (k : Key) (ks : List Key) → among k ks ≡ true → length (without k ks) < length ks
unfolding among without
one_less k [] e = absurd (true≢false (sym e))
one_less k (x ∷ ks) e =
    elim (same k x) as (λ b. (b || among k ks) ≡ true → length (cond (not b) (x ∷ without k ks) (without k ks)) < suc (length ks)) [
      | true ↦ λ h. (let rest = shorter k ks in omega (arith, rest))
      | false ↦ λ h. (let rest = one_less k ks h in omega (arith, rest))
    ] e

still_among : (k q : Key) (ks : List Key) → same k q ≡ false → among q ks ≡ true → among q (without k ks) ≡ true
unfolding among without
still_among k q [] off e = e
still_among k q (x ∷ ks) off e =
    elim (same k x) as (λ b. same k x ≡ b → among q (cond (not b) (x ∷ without k ks) (without k ks)) ≡ true) [
      | true ↦ λ t. still_among k q ks off (rest t)
      | false ↦ λ t. elim (same q x) as (λ b. (b || among q ks) ≡ true → (b || among q (without k ks)) ≡ true) [ true ↦ λ h. refl | false ↦ λ h. still_among k q ks off h ] e
    ] refl
  where
    rest : same k x ≡ true → among q ks ≡ true
    rest t = ⊎_elim
        (λ (h : same q x ≡ true). absurd (true≢false (sym (ap (same k) (same_is q x h) ∙ t) ∙ off)))
        (λ (h : same q x ≡ false). ap (λ b. b || among q ks) (sym h) ∙ e)
        (cases_Bool (same q x))

-- these are all keys before a moment
abbrev Covers : List Key → ℕ → State → Type 0
Covers ks moment s = (q : Key) (v : Event) → get s.pending q ≡ Some v → q.time < moment → among q ks ≡ true

abbrev AllFrom : ℕ → Events → Type 0
AllFrom moment events = EachEvent (λ q v. moment ≤ q.time) events

-- a run to a state with nothing pending before a moment
record Passes (s : State) (moment : ℕ) : Type 0 where
  pub n : ℕ
  pub lines : List TraceLine
  pub state : State
  pub is_run : run s n ≡ Some (lines, state)
  pub late : AllFrom moment state.pending

not_same : (k q : Key) → q ≢ k → same k q ≡ false
not_same k q off = ⊎_elim (λ (h : same k q ≡ true). absurd (off (sym (same_is k q h)))) (λ (h : same k q ≡ false). h) (cases_Bool (same k q))

-- what is pending after an event, but for what it sets, was pending before, under another key
left : (P : Key → Event → Type 0) (s : State) (k : Key) → ((q : Key) (u : Event) → get s.pending q ≡ Some u → q ≢ k → P q u) → EachEvent P (remove s.pending k)
left P s k from q u e = ⊎_elim (λ (h : (q ≡ k) × (None ≡ Some u)). absurd (not_some h.1)) (λ (h : (q ≢ k) × (get s.pending q ≡ Some u)). from q u h.1 h.0) (of_changed s.pending k None q u e)

module _ (moment : ℕ) (ks : List Key) (s : State) (covers : Covers ks (moment + 1) s) (late : AllFrom moment s.pending) (later : MakesLater s) (k : Key) (v : Event) (is : due s ≡ Some (k, v)) (there : get s.pending k ≡ Some v) where
  next_covers : Covers (without k ks) (moment + 1) (stepped s k (effect_of s (k, v)))
  next_covers =
      each_applied (λ q u. q.time < moment + 1 → among q (without k ks) ≡ true) (made_by s k v) (remove s.pending k)
      (all_map (λ (c : EventChange). IfSome c.1 (λ _. k.time < c.0.time)) (λ (c : EventChange). IfSome c.1 (λ _. c.0.time < moment + 1 → among c.0 (without k ks) ≡ true)) (λ c h. at c.0 c.1 h) (made_by s k v) (later k v is))
      (left (λ q u. q.time < moment + 1 → among q (without k ks) ≡ true) s k (λ q u h other below. still_among k q ks (not_same k q other) (covers q u h below)))
    where
      at : (q : Key) (o : Option Event) → IfSome o (λ _. k.time < q.time) → IfSome o (λ _. q.time < moment + 1 → among q (without k ks) ≡ true)
      at q None h = tt
      at q (Some u) h = λ below. (let l = late k v there in absurd (omega (arith, l, h, below)))

  next_late : AllFrom moment (stepped s k (effect_of s (k, v))).pending
  next_late =
      each_applied (λ q u. moment ≤ q.time) (made_by s k v) (remove s.pending k)
      (all_map (λ (c : EventChange). IfSome c.1 (λ _. k.time < c.0.time)) (λ (c : EventChange). IfSome c.1 (λ _. moment ≤ c.0.time)) (λ c h. at c.0 c.1 h) (made_by s k v) (later k v is))
      (left (λ q u. moment ≤ q.time) s k (λ q u h other. late q u h))
    where
      at : (q : Key) (o : Option Event) → IfSome o (λ _. k.time < q.time) → IfSome o (λ _. moment ≤ q.time)
      at q None h = tt
      at q (Some u) h = (let l = late k v there in omega (arith, l, h))

-- the least that is before a moment
first_below : (moment : ℕ) (s : State) (k : Key) (v : Event) → moment < s.end → below (moment + 1) (least s.pending) ≡ Some (k, v) → (due s ≡ Some (k, v)) × (get s.pending k ≡ Some v) × (k.time < moment + 1)
first_below moment s k v inside e =
    let facts = of_below (moment + 1) (least s.pending) k v e in
    let early : k.time < s.end = (let a = facts.1 in omega (arith, a, inside)) in
    (ap (below s.end) facts.0 ∙ ap (λ b. cond b (Some (k, v)) None) (lt-ltb k.time s.end early), (least_is s.pending k v facts.0).pending, facts.1)

none_below : (moment : ℕ) (m : Events) (o : Option (Key × Event)) → least m ≡ o → below moment o ≡ None → AllFrom moment m
none_below moment m None is e q v there = absurd (not_some (sym (none_least m is q) ∙ there))
none_below moment m (Some x) is e q v there =
    let first = least_time m x.0 x.1 is q v there in
    elim (nat_lt x.0.time moment) as (λ b. nat_lt x.0.time moment ≡ b → cond b (Some x) None ≡ None → moment ≤ q.time) [
      | true ↦ λ t f. absurd (not_some (sym f))
      | false ↦ λ t f. (let l = ltb-false _ _ t in omega (arith, l, first))
    ] refl e

-- all events of one moment
clears : (size moment : ℕ) (ks : List Key) (s : State) → length ks ≤ size → Covers ks (moment + 1) s → AllFrom moment s.pending → moment < s.end → Along MakesLater s → Passes s (moment + 1)
clears zero moment ks s few covers late inside later =
    elim (below (moment + 1) (least s.pending)) as (λ o. below (moment + 1) (least s.pending) ≡ o → Passes s (moment + 1)) [
      | None ↦ λ e. record { n = 0; lines = []; state = s; is_run = refl; late = none_below (moment + 1) s.pending (least s.pending) refl e }
      | Some x ↦ λ e. let d = first_below moment s x.0 x.1 inside e in let l = one_less x.0 ks (covers x.0 x.1 d.1 d.2) in absurd (omega (arith, l, few))
    ] refl
clears (suc size) moment ks s few covers late inside later =
    elim (below (moment + 1) (least s.pending)) as (λ o. below (moment + 1) (least s.pending) ≡ o → Passes s (moment + 1)) [
      | None ↦ λ e. record { n = 0; lines = []; state = s; is_run = refl; late = none_below (moment + 1) s.pending (least s.pending) refl e }
      | Some x ↦ λ e.
          let k = x.0 in
          let v = x.1 in
          let d = first_below moment s k v inside e in
          let next = stepped s k (effect_of s (k, v)) in
          let l = one_less k ks (covers k v d.1 d.2) in
          let here = along_here MakesLater s later in
          let r = clears size moment (without k ks) next (omega (arith, l, few)) (next_covers moment ks s covers late here k v d.0 d.1) (next_late moment ks s covers late here k v d.0 d.1) inside
          (along_step MakesLater s next (line_of (k, v) (effect_of s (k, v))) (due_steps s k v d.0) later) in
          record {
            n = suc r.n;
            lines = line_of (k, v) (effect_of s (k, v)) ∷ r.lines;
            state = r.state;
            is_run = run_cons s next r.state (line_of (k, v) (effect_of s (k, v))) r.n r.lines (due_steps s k v d.0) r.is_run;
            late = r.late;
          }
    ] refl

all_keys : (s : State) (moment : ℕ) → Covers (keys s.pending) moment s
unfolding among
all_keys s moment q v e below = sym (contains_key-keys s.pending q) ∙ ap is_some e

-- from any state whose run's events make only later ones
run_passes : (moment : ℕ) (s : State) → moment ≤ s.end → Along MakesLater s → Passes s moment
run_passes zero s inside later = record { n = 0; lines = []; state = s; is_run = refl; late = λ q v some. omega arith }
run_passes (suc moment) s inside later =
    let before = run_passes moment s (omega (arith, inside)) later in
    let ends = run_end before.n s before.state before.lines before.is_run in
    let r = clears (length (keys before.state.pending)) moment (keys before.state.pending) before.state (omega arith) (all_keys before.state (moment + 1)) before.late (omega (arith, inside, ends))
    (along_run MakesLater s before.state before.n before.lines before.is_run later) in
    let same : moment + 1 ≡ suc moment = omega arith in
    record {
      n = before.n + r.n;
      lines = before.lines ++ r.lines;
      state = r.state;
      is_run = run_add s before.state r.state before.n r.n before.lines r.lines before.is_run r.is_run;
      late = subst (λ m. AllFrom m r.state.pending) same r.late;
    }

none_due : (s : State) → AllFrom s.end s.pending → (o : Option (Key × Event)) → due s ≡ o → o ≡ None
none_due s late None e = refl
none_due s late (Some x) e = let d = is_due s x.0 x.1 e in let l = late x.0 x.1 d.pending in let b = d.in_time in absurd (omega (arith, l, b))

pub runs_end : RunsEnd
runs_end p is_scenario =
    let later : Along MakesLater (initial p) = λ n lines u e k v is. all_map (λ (c : EventChange). IfSome c.1 (λ _. IsDueSoon k.time c.0)) (λ (c : EventChange). IfSome c.1 (λ _. k.time < c.0.time)) (λ c h. at k c.0 c.1 h) (made_by u k v) (effects_are_soon p n lines u is_scenario e k v is) in
    let r = run_passes p.end (initial p) (omega arith) later in
    let ends : r.state.end ≡ p.end = run_end r.n (initial p) r.state r.lines r.is_run in
    record { steps = r.n; lines = r.lines; last = r.state; comes = r.is_run; none_due = none_due r.state (subst (λ m. AllFrom m r.state.pending) (sym ends) r.late) (due r.state) refl }
  where
    at : (k q : Key) (o : Option Event) → IfSome o (λ _. IsDueSoon k.time q) → IfSome o (λ _. k.time < q.time)
    at k q None h = h
    at k q (Some u) h = h.0

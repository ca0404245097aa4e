-- A window whose groups have fired so often that the run has more events than there may be.
use Rattle.std.proofs.Common.{◌≡◌, ◌≢◌, ◌<◌, ◌≤◌, ◌+◌, ◌-◌, ◌==◌, ℕ, zero, suc, List, [], ◌∷◌, length, length-append, filter, set, Bool, true, false, cond, Option, Some, None, refl, sym, ap, subst, ◌∙◌, ⊎_elim, arith, eq-eqb, ne_eqb, get_or-set_same, lt-ltb, ltb-true}
use Rattle.std.specs.Prelude.{nat_lt}
use Rattle.std.proofs.lemmas.Bool.{cases_eq, cases_lt}
use Rattle.std.proofs.lemmas.List.{length-set}
use Rattle.sim_time.specs.declared.key.Key.{Key}
use Rattle.sim_time.specs.declared.limits.TheConstants.{MOST_EVENTS}
use Rattle.tournament.specs.Keyed.{least}
use Rattle.node_core.specs.declared.event.Event.{Event}
use Rattle.node_core.specs.TraceLine.{TraceLine}
use Rattle.table_run.specs.State.{State, below, due, run}
use Rattle.table_run.proofs.Runs.{run_length, run_parts}
use Rattle.window_law.specs.Calls.{IsInRun}
use Rattle.window_core.specs.Full.{HasTooMany}
use Rattle.window_core.specs.Laws.{FullGroupHasTooMany, FullTurnHasTooMany}
use Rattle.node_group.specs.Group.{GroupValue, state_of}
use Rattle.window_law.specs.Groups.{GroupState, group_at, up_to}
use Rattle.net_partition.specs.Partition.{group_in}
use Rattle.window_core.specs.Window.{WindowValue, no_value, value_at, states_of, machine_of}
use Rattle.window_law.specs.Windows.{all_lines}
use Rattle.window_law.proofs.Caught.{no_further}
use Rattle.window_core.proofs.EndOfWindow.{at_end}
use Rattle.window_law.proofs.EveryRun.{caught}
use Rattle.window_core.proofs.FiredAt.{from_fired}
use Rattle.window_law.proofs.Matches.{the_value}
use Rattle.window_core.proofs.Windowed.{state_at, length_states}

abbrev most : ℕ
most = MOST_EVENTS

-- A RUN

-- one that goes on past the most
past_most : (edge state : State) (position n : ℕ) (more : List TraceLine) → run edge n ≡ Some (more, state) → position ≤ most → most < position + n → HasTooMany record { state = edge; position = position }
past_most edge state position n more e fits past =
    let parted = run_parts edge state (most - position) (suc (position + n - suc most)) more (ap (run edge) {x = (most - position) + suc (position + n - suc most)} {y = n} (omega (arith, fits, past)) ∙ e) in
    record { lines = parted.first; last = parted.between; is_run = parted.begins; one_due = λ none. no_further (position + n - suc most) parted.between state parted.rest none parted.goes_on }

-- one that comes to the most or past it, where one more is due
due_at_most : (edge state : State) (position n : ℕ) (more : List TraceLine) → run edge n ≡ Some (more, state) → position ≤ most → most ≤ position + n → due state ≢ None → HasTooMany record { state = edge; position = position }
due_at_most edge state position n more e fits upto one =
    ⊎_elim
    (λ (past : most < position + n). past_most edge state position n more e fits past)
    (λ (there : position + n ≤ most). record { lines = more; last = state; is_run = ap (run edge) {x = most - position} {y = n} (omega (arith, fits, upto, there)) ∙ e; one_due = one })
    (cases_lt most (position + n))

-- THE LINES OF A GROUP

filter_fewer : {A : Type 0} (p : A → Bool) (xs : List A) → length (filter p xs) ≤ length xs
filter_fewer p [] = omega arith
filter_fewer p (x ∷ xs) = let rest = filter_fewer p xs in elim (p x) as (λ b. length (cond b (x ∷ filter p xs) (filter p xs)) ≤ suc (length xs)) [ true ↦ omega (arith, rest) | false ↦ omega (arith, rest) ]

-- what is due before a moment is due before a later one
due_later : (sooner later : ℕ) (o : Option (Key × Event)) → sooner ≤ later → below sooner o ≢ None → below later o ≢ None
due_later sooner later None upto one = one
due_later sooner later (Some entry) upto one =
    elim (nat_lt entry.0.time sooner) as (λ b. nat_lt entry.0.time sooner ≡ b → cond b (Some entry) None ≢ None → below later (Some entry) ≢ None) [
      | true ↦ λ t _. let l = ltb-true _ _ t in let early : entry.0.time < later = omega (arith, l, upto) in subst (λ b. cond b (Some entry) None ≢ None) (sym (lt-ltb _ _ early)) (λ e. absurd (cc))
      | false ↦ λ t none. absurd (none refl)
    ] refl one

-- a group of a window at which the run's next event is due
full_group : (v : WindowValue) (edge : State) (p : Rattle.scenario_image.specs.declared.parts.ScenarioParts.ScenarioParts) (before : List TraceLine) → IsInRun p (group_in v.entries) v.position before edge (machine_of v) → v.position ≤ most
    → (h : ℕ) → h < length v.groups → due (up_to v.until (state_of (value_at v.groups h))) ≢ None → most ≤ v.position + length (value_at v.groups h).lines → HasTooMany record { state = edge; position = v.position }
full_group v edge p before in_run fits h under one upto =
    let group = group_in v.entries in
    let c = caught p group v.position before edge (machine_of v) in_run h (let size = length_states v.groups in omega (arith, under, size)) in
    let at = state_at v.groups h under in
    let next = the_value _ one in
    let its : due c.state ≡ Some next.0 = c.next next.0.0 next.0.1 (ap (λ (s : GroupState). due (up_to v.until s)) at ∙ next.1) in
    let lines : (value_at v.groups h).lines ≡ filter (λ (l : TraceLine). group l.key.node == h) c.more = ap (λ (s : GroupState). s.lines) (sym at ∙ c.same) ∙ c.matches.lines_are h in
    let fewer = filter_fewer (λ (l : TraceLine). group l.key.node == h) c.more in
    let count = ap length lines in
    let steps = run_length c.n edge c.state c.more c.is_run in
    due_at_most edge c.state v.position c.n c.more c.is_run fits (omega (arith, upto, fewer, count, steps)) (λ none. absurd (cc))

pub full_group_has_too_many : FullGroupHasTooMany
full_group_has_too_many edge v is from h g under after end within full =
    let part = is.split.parts h under in
    let position : g.position ≡ v.position = ap (λ (x : GroupValue). x.position) after.rest ∙ part.position_is in
    let now : WindowValue = record v { groups = set v.groups h g; out = false } in
    let it : value_at now.groups h ≡ g = get_or-set_same v.groups h g no_value under in
    let later = from_fired v is h under g after edge from in
    full_group now edge later.scenario later.before later.in_run is.split.fits h (let size = length-set v.groups h g in omega (arith, under, size))
    (subst (λ (x : GroupValue). due (up_to v.until (state_of x)) ≢ None) (sym it) (due_later end v.until (least (state_of g).pending) within full.0))
    (subst (λ (x : GroupValue). most ≤ v.position + length x.lines) (sym it) (let many = full.1 in omega (arith, many, position)))

-- THE LINES OF ALL GROUPS

-- of numbers from a first one on, so many
abbrev sum_from : (ℕ → ℕ) → ℕ → ℕ → ℕ
sum_from f first zero = 0
sum_from f first (suc count) = f first + sum_from f (first + 1) count

lines_in : (groups : List GroupState) (f : ℕ → ℕ) (first : ℕ) → ((h : ℕ) → length (group_at groups h).lines ≡ f (first + h)) → length (all_lines groups) ≡ sum_from f first (length groups)
lines_in [] f first each = refl
lines_in (g ∷ groups) f first each =
    let here : length g.lines ≡ f first = each 0 ∙ ap f {x = first + 0} {y = first} (omega arith) in
    let rest = lines_in groups f (first + 1) (λ h. each (suc h) ∙ ap f {x = first + suc h} {y = first + 1 + h} (omega arith)) in
    let both = length-append g.lines (all_lines groups) in
    omega (arith, here, rest, both)

module _ (group : ℕ → ℕ) where
  abbrev own : ℕ → List TraceLine → ℕ
  own h lines = length (filter (λ (l : TraceLine). group l.key.node == h) lines)

  own_here : (l : TraceLine) (lines : List TraceLine) (h : ℕ) → group l.key.node ≡ h → own h (l ∷ lines) ≡ suc (own h lines)
  own_here l lines h at = ap (λ b. length (cond b (l ∷ filter (λ (x : TraceLine). group x.key.node == h) lines) (filter (λ (x : TraceLine). group x.key.node == h) lines))) (eq-eqb _ _ at)

  own_off : (l : TraceLine) (lines : List TraceLine) (h : ℕ) → group l.key.node ≢ h → own h (l ∷ lines) ≡ own h lines
  own_off l lines h off = ap (λ b. length (cond b (l ∷ filter (λ (x : TraceLine). group x.key.node == h) lines) (filter (λ (x : TraceLine). group x.key.node == h) lines))) (ne_eqb _ _ off)

  no_lines : (first count : ℕ) → sum_from (λ h. own h []) first count ≡ 0
  no_lines first zero = refl
  no_lines first (suc count) = let rest = no_lines (first + 1) count in omega (arith, rest)

  -- a line of a group before all of these, and of one of them
  of_none : (l : TraceLine) (lines : List TraceLine) (first count : ℕ) → group l.key.node < first → sum_from (λ h. own h (l ∷ lines)) first count ≡ sum_from (λ h. own h lines) first count
  of_none l lines first zero less = refl
  of_none l lines first (suc count) less =
      let here = own_off l lines first (λ at. absurd (omega (arith, at, less))) in
      let rest = of_none l lines (first + 1) count (omega (arith, less)) in
      omega (arith, here, rest)

  of_one : (l : TraceLine) (lines : List TraceLine) (first count : ℕ) → first ≤ group l.key.node → group l.key.node < first + count → sum_from (λ h. own h (l ∷ lines)) first count ≡ suc (sum_from (λ h. own h lines) first count)
  of_one l lines first zero upto below = absurd (omega (arith, upto, below))
  of_one l lines first (suc count) upto below =
      ⊎_elim
      (λ (at : group l.key.node ≡ first).
      let here = own_here l lines first at in
      let rest = of_none l lines (first + 1) count (omega (arith, at)) in
      omega (arith, here, rest))
      (λ (off : group l.key.node ≢ first).
      let here = own_off l lines first off in
      let rest = of_one l lines (first + 1) count (omega (arith, upto, off)) (omega (arith, below)) in
      omega (arith, here, rest))
      (cases_eq (group l.key.node) first)

  -- each line is one group's
  all_own : (lines : List TraceLine) (count : ℕ) → ((node : ℕ) → group node < count) → sum_from (λ h. own h lines) 0 count ≡ length lines
  all_own [] count few = no_lines 0 count
  all_own (l ∷ lines) count few = of_one l lines 0 count (omega arith) (let below = few l.key.node in omega (arith, below)) ∙ ap suc (all_own lines count few)

pub full_turn_has_too_many : FullTurnHasTooMany
full_turn_has_too_many edge v from fits done full =
    let group = group_in v.entries in
    let groups = states_of v.groups in
    let e = at_end from.scenario group v.position from.before edge (machine_of v) from.in_run done in
    let count : length (all_lines groups) ≡ length e.lines =
    lines_in groups (λ h. own group h e.lines) 0 (λ h. ap length (e.matches.lines_are h) ∙ ap (λ n. own group n e.lines) {x = h} {y = 0 + h} (omega arith))
    ∙ all_own group e.lines (length groups) e.matches.few in
    let steps = run_length e.steps edge e.state e.lines e.is_run in
    past_most edge e.state v.position e.steps e.lines e.is_run fits (omega (arith, full, count, steps))

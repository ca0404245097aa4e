-- A run that goes on past a moment, and one that does not.
use Rattle.std.proofs.Common.{◌≡◌, ◌∙◌, ◌+◌, ◌-◌, ◌<◌, ◌≤◌, ℕ, suc, Bool, true, false, MatchBool, List, Option, Some, Result, Ok, Err, IfOk, IfErr, sym, ap, subst, arith}
use Rattle.std.specs.List.{AllByRecursion}
use Rattle.sim_time.specs.declared.limits.TheConstants.{MOST_EVENTS}
use Rattle.scenario_image.specs.declared.parts.ScenarioParts.{ScenarioParts}
use Rattle.node_core.specs.TraceLine.{TraceLine}
use Rattle.table_run.specs.Laws.{ComesTo}
use Rattle.table_run.specs.State.{State, due, initial, run}
use Rattle.table_run.proofs.Lists.{all_right}
use Rattle.table_run.proofs.Runs.{of_run, of_step, run_parts}
use Rattle.net_machine.specs.Run.{Reached}
use Rattle.net_watch.specs.RunsBefore.{RunsBefore, IsHeldAt}
use Rattle.figures_text.specs.Steps.{IsGoingOn}
use Rattle.sessions.specs.declared.fault.SessionFault.{SessionFault}
use Rattle.sessions.specs.declared.fault.SessionFault.TheVariants.{Figures as NoFigures, NoMemory, CountFull}
use Rattle.sessions.specs.declared.figures_fault.FiguresFault.TheVariants.{TooManyRows}
use Rattle.sessions.specs.FiguresOutput.{IsCountFault, StandsAt}
use Rattle.sessions.specs.RowLimit.{GoesPast, HasTooManyRows, IsPastFault, IsRowsFault, row_limit}
use Rattle.sessions.proofs.Figured.{count_refused}
use Rattle.sessions.proofs.Stepped.{IsEarly, comes_there}
use Rattle.command_line.proofs.Options.{same_some}

-- where no event is due before a moment, none before it comes
not_further : (s : State) (moment n m : ℕ) (first lines : List TraceLine) (mid last : State) → n < m → run s n ≡ Some (first, mid) → IsHeldAt moment mid → run s m ≡ Some (lines, last) → AllByRecursion (IsEarly moment) lines → ⊥
not_further s moment n m first lines mid last less begins held is early =
    let more = m - suc n in
    let far : m ≡ n + suc more = omega (arith, less) in
    let parts = run_parts s last n (suc more) lines (subst (λ k. run s k ≡ Some (lines, last)) far is) in
    let both : Some (first, mid) ≡ Some (parts.first, parts.between) = sym begins ∙ parts.begins in
    let same : mid ≡ parts.between = ap (λ (x : List TraceLine × State). x.1) (same_some (first, mid) (parts.first, parts.between) both) in
    let behind : AllByRecursion (IsEarly moment) parts.rest = all_right (IsEarly moment) parts.first parts.rest (subst (AllByRecursion (IsEarly moment)) parts.together early) in
    of_run parts.between last more parts.rest parts.goes_on (λ line t rest steps others rest_is.
    of_step parts.between line t steps (λ k v due_is new_is line_is.
    let late : moment ≤ k.time = held k v (subst (λ (x : State). due x ≡ Some (k, v)) (sym same) due_is) in
    let here : line.key.time < moment = (subst (AllByRecursion (IsEarly moment)) rest_is behind).0 in
    let its : line.key.time ≡ k.time = ap (λ (l : TraceLine). l.key.time) line_is in
    omega (arith, late, here, its)))

-- a run stands at a moment at one state
same_place : (s : State) (moment n m : ℕ) (lines lines' : List TraceLine) (at at' : State) → run s n ≡ Some (lines, at) → AllByRecursion (IsEarly moment) lines → IsHeldAt moment at
    → run s m ≡ Some (lines', at') → AllByRecursion (IsEarly moment) lines' → IsHeldAt moment at' → (n ≡ m) × (at ≡ at')
same_place s moment n m lines lines' at at' is early held is' early' held' =
    let not_before : ¬ (n < m) = λ less. not_further s moment n m lines lines' at at' less is held is' early' in
    let not_behind : ¬ (m < n) = λ more. not_further s moment m n lines' lines at' at more is' held' is early in
    let same : n ≡ m = omega (arith, not_before, not_behind) in
    let both : Some (lines, at) ≡ Some (lines', at') = sym is ∙ subst (λ k. run s k ≡ Some (lines', at')) (sym same) is' in
    (same, ap (λ (x : List TraceLine × State). x.1) (same_some (lines, at) (lines', at') both))

-- where it stands at a moment it goes on past that
pub goes_past : (p : ScenarioParts) (moment : ℕ) (r : Reached) → StandsAt p moment r → r.position < MOST_EVENTS → IsGoingOn p moment r.state → GoesPast p moment
goes_past p moment r stands few going = record {
  on = record {
    state = r.state;
    come = record { n = r.position; few = omega (arith, few); lines = stands.lines; comes = stands.comes; early = stands.early; late = stands.held };
    going = going;
  };
  few = few;
}

-- or it does not
pub not_past : (p : ScenarioParts) (moment : ℕ) (r : Reached) → StandsAt p moment r → ¬ ((r.position < MOST_EVENTS) × IsGoingOn p moment r.state) → ¬ GoesPast p moment
not_past p moment r stands stops past =
    let come = past.on.come in
    let few = past.few in
    let same = same_place (initial p) moment r.position come.n stands.lines come.lines r.state past.on.state stands.comes stands.early stands.held come.comes come.early come.late in
    let far = same.0 in
    stops (omega (arith, far, few), subst (IsGoingOn p moment) (sym same.1) past.on.going)

-- nor does one that was stopped before
pub past_refused : (p : ScenarioParts) (moment : ℕ) (old at : Reached) (fault : SessionFault) → old ≡ record { state = initial p; position = 0 } → RunsBefore moment old at → IsCountFault at fault → IsPastFault p moment fault
past_refused p moment old at NoMemory is before stops = tt
past_refused p moment old at CountFull is before stops =
    let comes = comes_there p moment old at is before in
    let full = stops.1 in (
      count_refused p at CountFull (record { lines = before.lines; comes = comes }) stops,
      λ past.
          let few = past.few in
          not_further (initial p) moment past.on.come.n at.position past.on.come.lines before.lines past.on.state at.state (omega (arith, few, full)) past.on.come.comes past.on.come.late comes before.early,
    )
past_refused p moment old at _ is before stops = absurd stops

-- a run of which the rows are within the limit, as it has ended by then
pub few_rows : (p : ScenarioParts) (from every limit : ℕ) (r : Result (Unit {0}) SessionFault) → limit ≡ row_limit p from every → IfOk r (λ _. ¬ GoesPast p limit) → IfOk r (λ _. ¬ HasTooManyRows p from every)
few_rows p from every limit (Ok u) is stops = λ many. stops (subst (GoesPast p) (sym is) many.past)
few_rows p from every limit (Err fault) is stops = tt

-- and why it was refused
pub rows_fault : (p : ScenarioParts) (from every limit : ℕ) (fault : SessionFault) → limit ≡ row_limit p from every → limit ≤ p.end → IsPastFault p limit fault → IsRowsFault p from every fault
rows_fault p from every limit NoMemory is fits stops = tt
rows_fault p from every limit CountFull is fits stops = (stops.0, λ many. stops.1 (subst (GoesPast p) (sym is) many.past))
rows_fault p from every limit (NoFigures TooManyRows) is fits stops = record { in_time = subst (λ n. n ≤ p.end) is fits; past = subst (GoesPast p) is stops }
rows_fault p from every limit _ is fits stops = absurd stops

pub rows_faults : (p : ScenarioParts) (from every limit : ℕ) (r : Result (Unit {0}) SessionFault) → limit ≡ row_limit p from every → limit ≤ p.end → IfErr r (IsPastFault p limit) → IfErr r (IsRowsFault p from every)
rows_faults p from every limit (Ok u) is fits stops = tt
rows_faults p from every limit (Err fault) is fits stops = rows_fault p from every limit fault is fits stops

-- where the limit is behind the scenario's end there are not
pub no_rows_past : (p : ScenarioParts) (from every : ℕ) → p.end < row_limit p from every → ¬ HasTooManyRows p from every
no_rows_past p from every late = λ many. let fits = many.in_time in omega (arith, late, fits)

-- both, or not both, by the second
pub both_or_not : (A B : Type 0) (b : Bool) → A → MatchBool b B (¬ B) → MatchBool b (A × B) (¬ (A × B))
both_or_not A B true one other = (one, other)
both_or_not A B false one lacks = λ (both : A × B). lacks both.1

-- Going to a moment, from wherever.
use Rattle.std.proofs.Common.{◌≡◌, ℕ, suc, ◌+◌, ◌-◌, ◌<◌, ◌≤◌, List, [], refl, sym, ap, subst, ◌∙◌, Some, ⊎_elim, ◌⊎◌, arith}
use Rattle.std.specs.List.{AllByRecursion}
use Rattle.std.proofs.lemmas.Bool.{cases_lt}
use Rattle.sim_time.specs.declared.key.Key.{Key}
use Rattle.node_core.specs.declared.event.Event.{Event}
use Rattle.node_core.specs.TraceLine.{TraceLine}
use Rattle.tournament.proofs.Maps.{same_some}
use Rattle.table_run.specs.State.{State, initial, run}
use Rattle.table_run.specs.Sound.{EachEvent}
use Rattle.table_run.proofs.Due.{is_due}
use Rattle.table_run.proofs.Lists.{all_right}
use Rattle.table_run.proofs.Runs.{of_step, of_run, run_parts}
use Rattle.table_run.proofs.RunLaws.{sound_run}
use Rattle.net_machine.specs.Run.{Reached, IsRun}
use Rattle.debugger.specs.Moves.{Passes, IsDueBefore, SomeUpto, UntilGoesTo}
use Rattle.debugger.proofs.Walks.{same_state}

-- a run begins with the opening of its scenario
opens : (at : Reached) → at.position ≡ 0 → (is : IsRun at) → at.state ≡ initial is.scenario
opens at zero is = sym (ap (λ (q : List TraceLine × State). q.1) (same_some ([], initial is.scenario) (is.lines, at.state) (sym (ap (run (initial is.scenario)) zero) ∙ is.is)))

-- where an event before a time is due, none of the positions before has all of them behind it
pub some_upto : (start : Reached) (time : ℕ) (near : Reached) → start.position ≡ 0 → IsRun start → Passes start.state near → IsDueBefore time near.state → SomeUpto start.state time near.position
some_upto start time near zero is at h q under none =
    let comes : run (initial is.scenario) near.position ≡ Some (at.lines, near.state) = subst (λ (s : State). run s near.position ≡ Some (at.lines, near.state)) (opens start zero is) at.comes in
    let sound = sound_run is.scenario near.position at.lines near.state is.is_scenario comes in
    let more = near.position - (q + 1) in
    let parted = run_parts start.state near.state q (suc more) at.lines (ap (run start.state) {x = q + suc more} {y = near.position} (omega (arith, under)) ∙ at.comes) in
    let same : parted.between ≡ none.state = same_state start.state (record { state = parted.between; position = q }) (record { state = none.state; position = q }) (record { lines = parted.first; comes = parted.begins }) none.passes refl in
    let nothing = subst (λ (s : State). EachEvent (λ (k : Key) (v : Event). k.time < time → s.end ≤ k.time) s.pending) (sym same) none.none in
    of_run parted.between near.state more parted.rest parted.goes_on (λ line t rest first _ rest_is.
    of_step parted.between line t first (λ k v due_is _ line_is.
    let own = is_due parted.between k v due_is in
    let time_is : line.key.time ≡ k.time = ap (λ (l : TraceLine). l.key.time) line_is in
    let behind = all_right (λ (l : TraceLine). l.key.time ≤ sound.moment) parted.first parted.rest (subst (AllByRecursion (λ (l : TraceLine). l.key.time ≤ sound.moment)) parted.together sound.none_later) in
    let upto : line.key.time ≤ sound.moment = (subst (AllByRecursion (λ (l : TraceLine). l.key.time ≤ sound.moment)) rest_is behind).0 in
    let from : sound.moment ≤ h.key.time = sound.sound.not_past h.key h.event (is_due near.state h.key h.event h.due_is).pending in
    let early = h.early in
    let in_time = own.in_time in
    ⊎_elim
    (λ (before : k.time < time). let late = nothing k v own.pending before in absurd (omega (arith, late, in_time)))
    (λ (late : time ≤ k.time). absurd (omega (arith, late, time_is, upto, from, early)))
    (cases_lt k.time time)))

-- of the first position
pub none_upto : (start : State) (time p : ℕ) → p ≡ 0 → SomeUpto start time p
none_upto start time p zero q under none = absurd (omega (arith, zero, under))

-- so that a move from there goes where one from the first position goes
pub until_from : (start : State) (time m p : ℕ) → SomeUpto start time m → UntilGoesTo start time m p → UntilGoesTo start time 0 p
until_from start time m p some goes = record {
  holds = (omega arith, goes.holds.1);
  least = λ q h. ⊎_elim (λ (before : q < m). absurd (some q before h.1)) (λ (from : m ≤ q). goes.least q (from, h.1)) (cases_lt q m);
}

-- a state of the run from which a move to a time begins: an event before that is due, or it is the first
abbrev pub Begins : State → ℕ → Reached → Type 0
Begins start time net = Passes start net × ((net.position ≡ 0) ⊎ IsDueBefore time net.state)

pub begins_upto : (start : Reached) (time : ℕ) (net : Reached) → start.position ≡ 0 → IsRun start → Begins start.state time net → SomeUpto start.state time net.position
begins_upto start time net zero is begins = ⊎_elim (λ (first : net.position ≡ 0). none_upto start.state time net.position first) (λ (h : IsDueBefore time net.state). some_upto start time net zero is begins.0 h) begins.1

-- How a run ends whose figures are counted.
use Rattle.std.proofs.Common.{◌≡◌, ◌≤◌, ℕ, min, List, [], Option, None, Some, Result, Ok, Err, IfOk, refl, ap, subst, arith}
use Rattle.std.specs.Option.{option_map}
use Rattle.sim_time.specs.declared.limits.TheConstants.{MOST_EVENTS}
use Rattle.scenario_image.specs.declared.parts.ScenarioParts.{ScenarioParts}
use Rattle.table_run.specs.State.{State, due, initial, run, step_at}
use Rattle.table_run.proofs.Runs.{run_end}
use Rattle.net_machine.specs.Run.{Reached}
use Rattle.net_watch.specs.RunsBefore.{IsHeldAt}
use Rattle.figures.specs.declared.figures.Figures.{Figures}
use Rattle.figures.specs.Figures.{AreOfRun, NoneBefore, base_at}
use Rattle.figures.specs.Moments.{Base, moments}
use Rattle.figures_text.specs.Summaries.{IsCountedFrom, IsTableFrom, table_over}
use Rattle.figures_text.specs.Table.{TextNames}
use Rattle.window_text.proofs.Bytes.{appends_nothing}
use Rattle.sessions.specs.declared.fault.SessionFault.{SessionFault}
use Rattle.sessions.specs.declared.fault.SessionFault.TheVariants.{NoMemory, CountFull}
use Rattle.sessions.specs.FiguresOutput.{AreCounted, HasCome, IsCountFault, IsRunFault, IsStepBegun, StandsAt, IsTableOutput}
use Rattle.sessions.specs.Written.{Writes}

-- a scenario's run goes on to the scenario's end
pub end_of_run : (p : ScenarioParts) (r : Reached) → HasCome p r → r.state.end ≡ p.end
end_of_run p r come = run_end r.position (initial p) r.state come.lines come.comes

-- what is due at or past a moment is so past the lesser of that and the run's end
pub none_before : (since moment end : ℕ) (s : State) → since ≡ min moment end → IsHeldAt moment s → NoneBefore since s
none_before since moment end s is held = λ k v due_is. (let late = held k v due_is in omega (arith, is, late))

pub at_most_end : (since moment end : ℕ) → since ≡ min moment end → since ≤ end
at_most_end since moment end is = omega (arith, is)

-- what is counted from a moment on is so further on
pub counted_on : (p : ScenarioParts) (moment : ℕ) (f new : Figures) (r at : Reached) → ((b : Base) → AreOfRun p b f r → AreOfRun p b new at) → AreCounted p moment f r → AreCounted p moment new at
counted_on p moment f new r at goes counted = record { base = counted.base; of = goes counted.base counted.of; from = counted.from }

pub has_come : (p : ScenarioParts) (moment : ℕ) (f : Figures) (r : Reached) → AreCounted p moment f r → HasCome p r
has_come p moment f r counted = record { lines = counted.of.lines; comes = counted.of.comes }

-- whatever came of it
pub where_ok : {A T E : Type 0} (r : Result T E) → A → IfOk r (λ _. A)
where_ok (Ok x) a = a
where_ok (Err e) a = tt

-- where counting was stopped there is no table
pub count_refused : (p : ScenarioParts) (r : Reached) (fault : SessionFault) → HasCome p r → IsCountFault r fault → IsRunFault p fault
count_refused p r NoMemory come stops = tt
count_refused p r CountFull come stops = record { lines = come.lines; last = r.state; is_run = subst (λ n. run (initial p) n ≡ Some (come.lines, r.state)) stops.1 come.comes; one_due = stops.0 }
count_refused p r _ come stops = absurd stops

-- what is counted from where a run stands at a moment is counted from that moment on
pub counts_from : (p : ScenarioParts) (moment : ℕ) (r : Reached) → StandsAt p moment r → IsCountedFrom p moment (base_at p (min moment p.end) r)
counts_from p moment r stands = record {
  base = record { lines = stands.lines; comes = stands.comes; earlier = refl; in_time = omega arith };
  since = refl;
  early = stands.early;
  late = stands.held;
}

pub counted_there : (p : ScenarioParts) (moment : ℕ) (f : Figures) (r : Reached) → IsStepBegun p moment f r → AreCounted p moment f r
counted_there p moment f r begun = record { base = base_at p (min moment p.end) r; of = begun.of; from = counts_from p moment r begun.stands }

-- where the run has ended there is one
pub table_there : (column : Option TextNames) (p : ScenarioParts) (moment : ℕ) (f : Figures) (r : Reached) (text : List ℕ) → AreCounted p moment f r → r.position ≤ MOST_EVENTS → due r.state ≡ None
    → ((b : Base) (of : AreOfRun p b f r) → text ≡ table_over column p b (moments b.state of.count) r.state) → IsTableFrom column p moment text
table_there column p moment f r text counted few none is = record {
  base = counted.base;
  counted = counted.from;
  n = counted.of.count;
  few = (let at = counted.of.position in omega (arith, at, few));
  lines = counted.of.counted;
  last = r.state;
  is_run = counted.of.goes_on;
  final = ap (option_map (step_at r.state)) none;
  bytes_are = is counted.base counted.of;
}

-- where there is no table, nothing was written
pub table_refused : (column : Option TextNames) (p : ScenarioParts) (from : ℕ) (fault : SessionFault) (known : Option (List ℕ)) → IsRunFault p fault → Writes (IsTableOutput column p from (Err fault)) known known
table_refused column p from NoMemory known stops = ([], appends_nothing known, refl)
table_refused column p from CountFull known stops = ([], appends_nothing known, (stops, refl))
table_refused column p from _ known stops = absurd stops

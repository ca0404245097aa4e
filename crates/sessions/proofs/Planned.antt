-- How the figures that are asked for end.
use Rattle.std.proofs.Common.{◌≡◌, ◌⊎◌, inl, inr, ◌∙◌, ◌+◌, ◌++◌, ℕ, Bool, List, [], Option, None, Some, Result, Ok, Err, refl, sym, ap, subst}
use Rattle.std.specs.Option.{option_map}
use Rattle.sim_time.specs.declared.key.Key.{Key}
use Rattle.scenario_image.specs.declared.parts.ScenarioParts.{ScenarioParts}
use Rattle.node_core.specs.declared.event.Event.{Event}
use Rattle.table_run.specs.State.{State, due, initial, step_at}
use Rattle.figures_text.specs.Steps.{IsGoingOn, IsSeries}
use Rattle.figures_text.specs.Summaries.{IsTableFrom}
use Rattle.figures_text.specs.Table.{TextNames}
use Rattle.window_text.proofs.Bytes.{appends_nothing}
use Rattle.sessions.specs.declared.fault.SessionFault.{SessionFault}
use Rattle.sessions.specs.declared.fault.SessionFault.TheVariants.{Figures as NoFigures, WriteFailed, NoMemory, CountFull}
use Rattle.sessions.specs.declared.figures_fault.FiguresFault.{FiguresFault}
use Rattle.sessions.specs.declared.figures_fault.FiguresFault.TheVariants.{TooManyRows}
use Rattle.sessions.specs.declared.figures_plan.FiguresPlan.{FiguresPlan}
use Rattle.sessions.specs.declared.figures_plan.FiguresPlan.TheVariants.{Table, Both, Series}
use Rattle.sessions.specs.Ended.{SessionEnded, IsHindered}
use Rattle.sessions.specs.FiguresOutput.{HasTooMany, IsPlannedOutput, IsNamedOutput, IsPlanFault, IsPlanOutput}
use Rattle.sessions.specs.NameColumns.{IsColumnOf}
use Rattle.sessions.specs.Trace.{IsTooLong}
use Rattle.sessions.specs.Written.{Writes}
use Rattle.table_run.proofs.Runs.{run_add}
use Rattle.sessions.proofs.Endless.{ends_in_time}
use Rattle.command_line.proofs.Options.{some_none}

-- a run whose figures are counted to its end comes to it
table_in_time : (column : Option TextNames) (p : ScenarioParts) (from : ℕ) (out : List ℕ) → IsTableFrom column p from out → IsTooLong (initial p) → ⊥
table_in_time column p from out table long =
    let base = table.base in
    let whole = run_add (initial p) base.state table.last base.before table.n table.counted.base.lines table.lines table.counted.base.comes table.is_run in
    ends_in_time (initial p) (base.before + table.n) (table.counted.base.lines ++ table.lines) table.last table.few whole table.final long

none_due : (p : ScenarioParts) (moment : ℕ) (s : State) → ¬ IsGoingOn p moment s → due s ≡ None
none_due p moment s over = go (due s) refl
  where
    go : (d : Option (Key × Event)) → due s ≡ d → due s ≡ None
    go None is = is
    go (Some next) is = absurd (over (inl (λ none. some_none next (sym is ∙ none))))

series_in_time : (column : Option TextNames) (p : ScenarioParts) (from every : ℕ) (out : List ℕ) → IsSeries column p from every out → IsTooLong (initial p) → ⊥
series_in_time column p from every out series long =
    let over = series.over in
    ends_in_time (initial p) over.come.n over.come.lines over.state over.come.few over.come.comes (ap (option_map (step_at over.state)) (none_due p _ over.state over.over)) long

done_in_time : (column : Option TextNames) (p : ScenarioParts) (plan : FiguresPlan) (u : Unit {0}) (out : List ℕ) → IsPlannedOutput column p plan (Ok u) out → IsTooLong (initial p) → ⊥
done_in_time column p (Table from) u out made long = table_in_time column p from out made long
done_in_time column p (Both from every) u out made long = table_in_time column p from made.table made.is_table long
done_in_time column p (Series from every) u out made long = series_in_time column p from every out made long

-- where counting was stopped for that, the run has too many events
full_is_long : (column : Option TextNames) (p : ScenarioParts) (plan : FiguresPlan) (out : List ℕ) → IsPlannedOutput column p plan (Err CountFull) out → IsTooLong (initial p)
full_is_long column p (Table from) out made = made.0
full_is_long column p (Both from every) out (inl made) = made.0
full_is_long column p (Both from every) out (inr made) = made.is_rest.0
full_is_long column p (Series from every) out made = made.0

-- the ends that they can have
abbrev pub IsFiguresEnd : SessionEnded → Type 0
IsFiguresEnd (Ok done) = Unit {0}
IsFiguresEnd (Err NoMemory) = Unit {0}
IsFiguresEnd (Err CountFull) = Unit {0}
IsFiguresEnd (Err WriteFailed) = Unit {0}
IsFiguresEnd _ = ⊥

planned_end : (column : Option TextNames) (p : ScenarioParts) (plan : FiguresPlan) (ended : SessionEnded) (out : List ℕ) → IsPlannedOutput column p plan ended out → IsFiguresEnd ended
planned_end column p plan (Ok u) out made = tt
planned_end column p plan (Err NoMemory) out made = tt
planned_end column p plan (Err CountFull) out made = tt
planned_end column p plan (Err WriteFailed) out made = tt
planned_end column p (Table from) _ out made = absurd made
planned_end column p (Both from every) _ out (inl made) = absurd made
planned_end column p (Both from every) _ out (inr made) = absurd made.is_rest
planned_end column p (Series from every) _ out made = absurd made

one_planned : (column other_column : Option TextNames) (p : ScenarioParts) (plan : FiguresPlan) (ended other : SessionEnded) (out out' : List ℕ) → ¬ IsHindered other → IsFiguresEnd ended → IsFiguresEnd other
    → IsPlannedOutput column p plan ended out → IsPlannedOutput other_column p plan other out' → (ended ≡ other) ⊎ IsHindered ended
one_planned c c' p plan (Ok u) (Ok v) out out' free e e' made due = inl refl
one_planned c c' p plan (Ok u) (Err CountFull) out out' free e e' made due = absurd (done_in_time c p plan u out made (full_is_long c' p plan out' due))
one_planned c c' p plan (Ok u) (Err NoMemory) out out' free e e' made due = absurd (free tt)
one_planned c c' p plan (Ok u) (Err WriteFailed) out out' free e e' made due = absurd (free tt)
one_planned c c' p plan (Ok u) _ out out' free e e' made due = absurd e'
one_planned c c' p plan (Err CountFull) (Ok v) out out' free e e' made due = absurd (done_in_time c' p plan v out' due (full_is_long c p plan out made))
one_planned c c' p plan (Err CountFull) (Err CountFull) out out' free e e' made due = inl refl
one_planned c c' p plan (Err CountFull) (Err NoMemory) out out' free e e' made due = absurd (free tt)
one_planned c c' p plan (Err CountFull) (Err WriteFailed) out out' free e e' made due = absurd (free tt)
one_planned c c' p plan (Err CountFull) _ out out' free e e' made due = absurd e'
one_planned c c' p plan (Err NoMemory) other out out' free e e' made due = inr tt
one_planned c c' p plan (Err WriteFailed) other out out' free e e' made due = inr tt
one_planned c c' p plan _ other out out' free e e' made due = absurd e

one_named : (names : Bool) (input : List ℕ) (p : ScenarioParts) (plan : FiguresPlan) (ended other : SessionEnded) (out out' : List ℕ) → ¬ IsHindered other → IsNamedOutput names input p plan ended out → IsNamedOutput names input p plan other out'
    → (ended ≡ other) ⊎ IsHindered ended
one_named names input p plan ended other out out' free made due =
    one_planned made.column due.column p plan ended other out out' free (planned_end made.column p plan ended out made.planned) (planned_end due.column p plan other out' due.planned) made.planned due.planned

-- with a plan, an end that nothing hinders has its output
with_plan : (names : Bool) (input : List ℕ) (p : ScenarioParts) (plan : FiguresPlan) (ended other : SessionEnded) (out out' : List ℕ) → ¬ IsHindered other → IsPlanOutput names input p (Ok plan) ended out → ¬ HasTooMany p plan
    → IsNamedOutput names input p plan other out' → (ended ≡ other) ⊎ IsHindered ended
with_plan names input p plan (Err NoMemory) other out out' free made few due = inr tt
with_plan names input p plan (Err (NoFigures TooManyRows)) other out out' free made few due = absurd (few made.0)
with_plan names input p plan ended other out out' free made few due = one_named names input p plan ended other out out' free made.1 due

-- with too many rows it is refused
with_too_many : (names : Bool) (input : List ℕ) (p : ScenarioParts) (plan : FiguresPlan) (ended : SessionEnded) (out : List ℕ) → IsPlanOutput names input p (Ok plan) ended out → HasTooMany p plan
    → (ended ≡ Err (NoFigures TooManyRows)) ⊎ IsHindered ended
with_too_many names input p plan (Err NoMemory) out made many = inr tt
with_too_many names input p plan (Err (NoFigures TooManyRows)) out made many = inl refl
with_too_many names input p plan ended out made many = absurd (made.0 many)

-- over one scenario they end in one way
pub one_plan : (names : Bool) (input : List ℕ) (p : ScenarioParts) (plan : Result FiguresPlan FiguresFault) (ended other : SessionEnded) (out out' : List ℕ) → ¬ IsHindered other → IsPlanOutput names input p plan ended out
    → IsPlanOutput names input p plan other out' → (ended ≡ other) ⊎ IsHindered ended
one_plan names input p (Err fault) ended other out out' free made due = inl (made.0 ∙ sym due.0)
one_plan names input p (Ok plan) ended (Err NoMemory) out out' free made due = absurd (free tt)
one_plan names input p (Ok plan) ended (Err (NoFigures TooManyRows)) out out' free made due = with_too_many names input p plan ended out made due.0
one_plan names input p (Ok plan) ended other out out' free made due = with_plan names input p plan ended other out out' free made due.0 due.1

-- a plan that was refused
pub plan_refused : (names : Bool) (input : List ℕ) (column : Option TextNames) (p : ScenarioParts) (plan : FiguresPlan) (fault : SessionFault) (known : Option (List ℕ)) → IsColumnOf names input column → IsPlanFault p plan fault
    → Writes (IsPlanOutput names input p (Ok plan) (Err fault)) known known
plan_refused names input column p (Table from) fault known of stops = absurd stops
plan_refused names input column p (Both from every) NoMemory known of stops = ([], appends_nothing known, inl refl)
plan_refused names input column p (Both from every) (NoFigures TooManyRows) known of stops = ([], appends_nothing known, (stops, refl))
plan_refused names input column p (Both from every) CountFull known of stops = ([], appends_nothing known, (stops.1, record { column = column; of = of; planned = inl (stops.0, refl) }))
plan_refused names input column p (Both from every) _ known of stops = absurd stops
plan_refused names input column p (Series from every) NoMemory known of stops = ([], appends_nothing known, inl refl)
plan_refused names input column p (Series from every) (NoFigures TooManyRows) known of stops = ([], appends_nothing known, (stops, refl))
plan_refused names input column p (Series from every) CountFull known of stops = ([], appends_nothing known, (stops.1, record { column = column; of = of; planned = (stops.0, inl refl) }))
plan_refused names input column p (Series from every) _ known of stops = absurd stops

-- and one that was not
pub plan_followed : (names : Bool) (input : List ℕ) (column : Option TextNames) (p : ScenarioParts) (plan : FiguresPlan) (ended : SessionEnded) (old new : Option (List ℕ)) → IsColumnOf names input column → ¬ HasTooMany p plan
    → Writes (IsPlannedOutput column p plan ended) old new → Writes (IsPlanOutput names input p (Ok plan) ended) old new
plan_followed names input column p plan (Err NoMemory) old new of few (out, takes, made) = (out, takes, inr (record { column = column; of = of; planned = made }))
plan_followed names input column p plan (Err (NoFigures TooManyRows)) old new of few (out, takes, made) = absurd (planned_end column p plan (Err (NoFigures TooManyRows)) out made)
plan_followed names input column p plan ended old new of few (out, takes, made) = (out, takes, (few, record { column = column; of = of; planned = made }))

-- and each end is one of these, or that there is no plan
abbrev pub IsPlanEnd : SessionEnded → Type 0
IsPlanEnd (Err (NoFigures fault)) = Unit {0}
IsPlanEnd ended = IsFiguresEnd ended

named_end : (ended : SessionEnded) → IsFiguresEnd ended → IsPlanEnd ended
named_end (Ok u) end = tt
named_end (Err NoMemory) end = tt
named_end (Err CountFull) end = tt
named_end (Err WriteFailed) end = tt
named_end (Err _) end = absurd end

pub plan_end : (names : Bool) (input : List ℕ) (p : ScenarioParts) (plan : Result FiguresPlan FiguresFault) (ended : SessionEnded) (out : List ℕ) → IsPlanOutput names input p plan ended out → IsPlanEnd ended
plan_end names input p (Err fault) ended out made = subst IsPlanEnd (sym made.0) tt
plan_end names input p (Ok plan) (Err NoMemory) out made = tt
plan_end names input p (Ok plan) (Err (NoFigures TooManyRows)) out made = tt
plan_end names input p (Ok plan) ended out made = named_end ended (planned_end made.1.column p plan ended out made.1.planned)

-- What `figures` writes of a scenario, and the ways in which counting ends.
use Rattle.std.specs.Prelude.{◌≡◌, ◌≢◌, ◌⊎◌, ◌<◌, ◌++◌, ℕ, min, Bool, List, [], length, Option, None, Result, Ok, Err}
use Rattle.std.specs.List.{AllByRecursion, concat}
use Rattle.sim_time.specs.declared.limits.TheConstants.{MOST_EVENTS}
use Rattle.scenario_image.specs.declared.parts.ScenarioParts.{ScenarioParts}
use Rattle.table_run.specs.State.{due, initial}
use Rattle.net_machine.specs.Run.{Reached}
use Rattle.net_watch.specs.RunsBefore.{IsHeldAt}
use Rattle.node_core.specs.TraceLine.{TraceLine}
use Rattle.table_run.specs.Laws.{ComesTo}
use Rattle.figures.specs.Moments.{Base}
use Rattle.figures.specs.Figures.{AreOfRun, base_at, whole}
use Rattle.figures.specs.declared.figures.Figures.{Figures}
use Rattle.figures_text.specs.Steps.{AreSteps, RunIsOver, IsSeries, IsSeriesStart, begin_of}
use Rattle.figures_text.specs.Summaries.{IsCountedFrom, IsTableFrom}
use Rattle.figures_text.specs.Table.{TextNames}
use Rattle.command_line.specs.declared.subcommand.Counting.{Counting}
use Rattle.sessions.specs.declared.fault.SessionFault.{SessionFault}
use Rattle.sessions.specs.declared.fault.SessionFault.TheVariants.{Figures as NoFigures, WriteFailed, NoMemory, CountFull}
use Rattle.sessions.specs.declared.figures_fault.FiguresFault.{FiguresFault}
use Rattle.sessions.specs.declared.figures_fault.FiguresFault.TheVariants.{TooManyRows}
use Rattle.sessions.specs.declared.figures_plan.FiguresPlan.{FiguresPlan}
use Rattle.sessions.specs.declared.figures_plan.FiguresPlan.TheVariants.{Table, Both, Series}
use Rattle.sessions.specs.Ended.{SessionEnded}
use Rattle.sessions.specs.FiguresPlan.{plan_of}
use Rattle.sessions.specs.NameColumns.{IsColumnOf}
use Rattle.sessions.specs.RowLimit.{HasTooManyRows, IsRowsFault}
use Rattle.sessions.specs.Trace.{IsTooLong}
use Rattle.sessions.specs.Written.{IsBeginningOf}

-- a run stopped where it has come to: memory was refused, or one more event is due after 10^15
abbrev pub IsCountFault : Reached → SessionFault → Type 0
IsCountFault net NoMemory = Unit {0}
IsCountFault net CountFull = (due net.state ≢ None) × (net.position ≡ MOST_EVENTS)
IsCountFault net _ = ⊥

-- nothing of a scenario's run is counted, and none of its events was run
pub record IsOpenedRun (p : ScenarioParts) (f : Figures) (r : Reached) : Type 0 where
  pub at : r ≡ record { state = initial p; position = 0 }
  pub of : AreOfRun p (whole p) f r

-- a scenario's run has come here
pub record HasCome (p : ScenarioParts) (r : Reached) : Type 0 where
  pub lines : List TraceLine
  pub comes : ComesTo p r.position lines r.state

-- a scenario's run stands at a moment: the events before it were run, and no other
pub record StandsAt (p : ScenarioParts) (moment : ℕ) (r : Reached) : Type 0 where
  pub lines : List TraceLine
  pub comes : ComesTo p r.position lines r.state
  pub early : AllByRecursion (λ (line : TraceLine). line.key.time < moment) lines
  pub held : IsHeldAt moment r.state

-- it stands there, and nothing is counted yet from there on
pub record IsStepBegun (p : ScenarioParts) (moment : ℕ) (f : Figures) (r : Reached) : Type 0 where
  pub stands : StandsAt p moment r
  pub of : AreOfRun p (base_at p (min moment p.end) r) f r

-- the figures are those of a scenario's run from a moment on, up to here
pub record AreCounted (p : ScenarioParts) (moment : ℕ) (f : Figures) (r : Reached) : Type 0 where
  pub base : Base
  pub of : AreOfRun p base f r
  pub from : IsCountedFrom p moment base

-- why a scenario's run was not counted to its end: memory was refused, or it has more than 10^15 events
abbrev pub IsRunFault : ScenarioParts → SessionFault → Type 0
IsRunFault p NoMemory = Unit {0}
IsRunFault p CountFull = IsTooLong (initial p)
IsRunFault p _ = ⊥

-- the rows of the first steps of a scenario's run
pub record AreRowsOfSteps (column : Option TextNames) (p : ScenarioParts) (from every : ℕ) (out : List ℕ) : Type 0 where
  pub steps : List (List ℕ)
  pub are : AreSteps column p from every steps
  pub out_is : out ≡ concat steps

-- the rows of each step up to where the run is over
pub record AreAllRows (column : Option TextNames) (p : ScenarioParts) (from every : ℕ) (out : List ℕ) : Type 0 where
  pub rows : AreRowsOfSteps column p from every out
  pub some : 0 < length rows.steps
  pub over : RunIsOver p (begin_of from every (length rows.steps))

-- what was written of these rows by the end
abbrev pub IsRowsOutput : Option TextNames → ScenarioParts → ℕ → ℕ → SessionEnded → List ℕ → Type 0
IsRowsOutput column p from every (Ok done) out = AreAllRows column p from every out
IsRowsOutput column p from every (Err NoMemory) out = AreRowsOfSteps column p from every out
IsRowsOutput column p from every (Err CountFull) out = IsTooLong (initial p) × AreRowsOfSteps column p from every out
IsRowsOutput column p from every (Err WriteFailed) out = IsBeginningOf (AreRowsOfSteps column p from every) out
IsRowsOutput column p from every _ out = ⊥

-- what was written of a series by the end: all of it; nothing, or the rows of its first steps, where memory was refused, or as the run has more than 10^15 events; a beginning of such where the writer failed
abbrev pub IsSeriesOutput : Option TextNames → ScenarioParts → ℕ → ℕ → SessionEnded → List ℕ → Type 0
IsSeriesOutput column p from every (Ok done) out = IsSeries column p from every out
IsSeriesOutput column p from every (Err NoMemory) out = IsSeriesStart column p from every out
IsSeriesOutput column p from every (Err CountFull) out = IsTooLong (initial p) × IsSeriesStart column p from every out
IsSeriesOutput column p from every (Err WriteFailed) out = IsBeginningOf (IsSeriesStart column p from every) out
IsSeriesOutput column p from every _ out = ⊥

-- what was written of a table by the end: the table; nothing where memory was refused, or as the run has more than 10^15 events; a beginning of the table where the writer failed
abbrev pub IsTableOutput : Option TextNames → ScenarioParts → ℕ → SessionEnded → List ℕ → Type 0
IsTableOutput column p from (Ok done) out = IsTableFrom column p from out
IsTableOutput column p from (Err NoMemory) out = out ≡ []
IsTableOutput column p from (Err CountFull) out = IsTooLong (initial p) × (out ≡ [])
IsTableOutput column p from (Err WriteFailed) out = IsBeginningOf (IsTableFrom column p from) out
IsTableOutput column p from _ out = ⊥

-- behind the table
pub record IsBehindTable (column : Option TextNames) (p : ScenarioParts) (from : ℕ) (P : List ℕ → Type 0) (out : List ℕ) : Type 0 where
  pub table : List ℕ
  pub rest : List ℕ
  pub is_table : IsTableFrom column p from table
  pub is_rest : P rest
  pub out_is : out ≡ table ++ rest

-- what was written of both by the end: of the table alone where it was not written whole
abbrev pub IsBothOutput : Option TextNames → ScenarioParts → ℕ → ℕ → SessionEnded → List ℕ → Type 0
IsBothOutput column p from every (Ok done) out = IsBehindTable column p from (IsSeriesOutput column p from every (Ok done)) out
IsBothOutput column p from every (Err fault) out = IsTableOutput column p from (Err fault) out ⊎ IsBehindTable column p from (IsSeriesOutput column p from every (Err fault)) out

-- what was written by the end of what was planned
abbrev pub IsPlannedOutput : Option TextNames → ScenarioParts → FiguresPlan → SessionEnded → List ℕ → Type 0
IsPlannedOutput column p (Table from) ended out = IsTableOutput column p from ended out
IsPlannedOutput column p (Both from every) ended out = IsBothOutput column p from every ended out
IsPlannedOutput column p (Series from every) ended out = IsSeriesOutput column p from every ended out

-- with a column of names, if one is wished; where memory was refused it may have been for that
pub record IsNamedOutput (names : Bool) (input : List ℕ) (p : ScenarioParts) (plan : FiguresPlan) (ended : SessionEnded) (out : List ℕ) : Type 0 where
  pub column : Option TextNames
  pub of : IsColumnOf names input column
  pub planned : IsPlannedOutput column p plan ended out

-- a run has more rows by time than there may be
abbrev pub HasTooMany : ScenarioParts → FiguresPlan → Type 0
HasTooMany p (Table from) = ⊥
HasTooMany p (Both from every) = HasTooManyRows p from every
HasTooMany p (Series from every) = HasTooManyRows p from every

-- why a plan was refused
abbrev pub IsPlanFault : ScenarioParts → FiguresPlan → SessionFault → Type 0
IsPlanFault p (Table from) fault = ⊥
IsPlanFault p (Both from every) fault = IsRowsFault p from every fault
IsPlanFault p (Series from every) fault = IsRowsFault p from every fault

-- what was written by the end by a plan: nothing where there is none, or there would be too many rows
abbrev pub IsPlanOutput : Bool → List ℕ → ScenarioParts → Result FiguresPlan FiguresFault → SessionEnded → List ℕ → Type 0
IsPlanOutput names input p (Err fault) ended out = (ended ≡ Err (NoFigures fault)) × (out ≡ [])
IsPlanOutput names input p (Ok plan) (Err NoMemory) out = (out ≡ []) ⊎ IsNamedOutput names input p plan (Err NoMemory) out
IsPlanOutput names input p (Ok plan) (Err (NoFigures TooManyRows)) out = HasTooMany p plan × (out ≡ [])
IsPlanOutput names input p (Ok plan) ended out = (¬ HasTooMany p plan) × IsNamedOutput names input p plan ended out

-- what was written of an input's scenario by the end: the figures that are asked for, or nothing where they cannot be
abbrev pub IsFiguresOutput : Counting → List ℕ → ScenarioParts → SessionEnded → List ℕ → Type 0
IsFiguresOutput counting input p ended out = IsPlanOutput counting.names input p (plan_of counting) ended out

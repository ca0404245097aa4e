-- A run that has more rows by time than there may be.
use Rattle.std.specs.Prelude.{◌≡◌, ◌+◌, ◌*◌, ◌/◌, ◌<◌, ◌≤◌, ℕ, length}
use Rattle.sim_time.specs.declared.limits.TheConstants.{MOST_EVENTS}
use Rattle.scenario_image.specs.declared.parts.ScenarioParts.{ScenarioParts}
use Rattle.table_run.specs.State.{initial}
use Rattle.figures_text.specs.Steps.{RunGoesOn}
use Rattle.sessions.specs.declared.fault.SessionFault.{SessionFault}
use Rattle.sessions.specs.declared.fault.SessionFault.TheVariants.{Figures as NoFigures, NoMemory, CountFull}
use Rattle.sessions.specs.declared.figures_fault.FiguresFault.TheVariants.{TooManyRows}
use Rattle.sessions.specs.Trace.{IsTooLong}

-- the rows of a step: seven of each flow, and nine of each link
abbrev pub rows_in_step : ScenarioParts → ℕ
rows_in_step p = 7 * length p.flows + 9 * length p.links

-- when the first step begins that would have a row behind 10^7 others
abbrev pub row_limit : ScenarioParts → ℕ → ℕ → ℕ
row_limit p from every = from + 10000000 / rows_in_step p * every

-- a run goes on past a moment, to which it comes by fewer than 10^15 events
pub record GoesPast (p : ScenarioParts) (moment : ℕ) : Type 0 where
  pub on : RunGoesOn p moment
  pub few : on.come.n < MOST_EVENTS

-- that step begins by the scenario's end, and the run goes on past that
pub record HasTooManyRows (p : ScenarioParts) (from every : ℕ) : Type 0 where
  pub in_time : row_limit p from every ≤ p.end
  pub past : GoesPast p (row_limit p from every)

-- why a run was not brought to an end by a moment: memory was refused, it goes on past that, or it has more than 10^15 events before
abbrev pub IsPastFault : ScenarioParts → ℕ → SessionFault → Type 0
IsPastFault p moment NoMemory = Unit {0}
IsPastFault p moment CountFull = IsTooLong (initial p) × (¬ GoesPast p moment)
IsPastFault p moment (NoFigures TooManyRows) = GoesPast p moment
IsPastFault p moment _ = ⊥

-- why rows are refused, or it is not known whether there are too many
abbrev pub IsRowsFault : ScenarioParts → ℕ → ℕ → SessionFault → Type 0
IsRowsFault p from every NoMemory = Unit {0}
IsRowsFault p from every CountFull = IsTooLong (initial p) × (¬ HasTooManyRows p from every)
IsRowsFault p from every (NoFigures TooManyRows) = HasTooManyRows p from every
IsRowsFault p from every _ = ⊥

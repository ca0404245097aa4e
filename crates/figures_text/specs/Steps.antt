-- What the rows of a step say of a run: over its events from a moment on and before another, and the state then.
use Rattle.std.specs.Prelude.{◌≡◌, ◌≢◌, ◌⊎◌, ◌<◌, ◌≤◌, ◌+◌, ℕ, zero, suc, min, nat_lt, Bool, true, if◌then◌else◌, is_some, List, [], ◌++◌, length, map, slice_index_or, Option, Some, None}
use Rattle.std.specs.List.{AllByRecursion, concat, list_any}
use Rattle.std.specs.Option.{option_map}
use Rattle.sim_time.specs.declared.limits.TheConstants.{MOST_EVENTS}
use Rattle.reno_sender.specs.declared.fields.SenderFields.{SenderFields}
use Rattle.reno_sender.specs.Fields.{flight_size}
use Rattle.scenario_image.specs.declared.parts.FlowPart.{FlowPart}
use Rattle.scenario_image.specs.declared.parts.ScenarioParts.{ScenarioParts}
use Rattle.node_core.specs.Part.{PartState, LinkState, sender_in}
use Rattle.node_core.specs.TraceLine.{TraceLine}
use Rattle.table_run.specs.Laws.{ComesTo}
use Rattle.table_run.specs.State.{State, part_at, run, due}
use Rattle.figures.specs.Figures.{NoneBefore}
use Rattle.figures.specs.Moments.{Moment, Base, moments}
use Rattle.figures_text.specs.declared.step.FlowStep.{FlowStep}
use Rattle.figures_text.specs.declared.step.Span.{Span}
use Rattle.figures_text.specs.declared.step.SenderWindow.{SenderWindow}
use Rattle.figures_text.specs.declared.summary.LinkSummary.{LinkSummary}
use Rattle.figures_text.specs.SeriesText.{series_heading, step_rows}
use Rattle.figures_text.specs.Table.{TextNames}
use Rattle.figures_text.specs.Summaries.{IsCountedFrom, flow_summary, link_summaries}

-- a sender's window
abbrev pub window_of : SenderFields → SenderWindow
window_of f = record { cwnd = f.cwnd; in_flight = flight_size f }

-- that of a flow's sender, where the flow starts before a moment
abbrev pub window_at : State → ℕ → FlowPart → Option SenderWindow
window_at s until flow = if nat_lt flow.start until then option_map (λ (found : ℕ × SenderFields). window_of found.1) (sender_in (part_at s flow.sender).role) else None

-- what is said of a flow
abbrev pub flow_step : ℕ → Base → List Moment → State → FlowPart → FlowStep
flow_step until b ms s flow = record { counts = flow_summary b ms s flow; window = window_at s until flow }

abbrev pub flow_steps : ScenarioParts → ℕ → Base → List Moment → State → List FlowStep
flow_steps p until b ms s = map (flow_step until b ms s) p.flows

-- what is said of the links where a moment is the end, or the scenario's where that is earlier: what waits then, and a link that is busy, count up to it
abbrev pub link_steps : ScenarioParts → ℕ → Base → List Moment → State → List LinkSummary
link_steps p until b ms s = link_summaries (record p { end = min until p.end }) b ms s

-- the rows of a step over its events from a base on, after which the state is s
abbrev pub rows_over : Option TextNames → ScenarioParts → Span → Base → List Moment → State → List ℕ
rows_over column p span b ms s = step_rows span.begin column (flow_steps p span.until b ms s) (link_steps p span.until b ms s)

-- the rows of a scenario's run in a step: of all its events from the step's begin on and before its end
pub record AreRowsOf (column : Option TextNames) (p : ScenarioParts) (span : Span) (rows : List ℕ) : Type 0 where
  pub base : Base
  pub counted : IsCountedFrom p span.begin base
  pub n : ℕ
  pub lines : List TraceLine
  pub last : State
  pub is_run : run base.state n ≡ Some (lines, last)
  pub early : AllByRecursion (λ (line : TraceLine). line.key.time < span.until) lines
  pub late : NoneBefore span.until last
  pub rows_are : rows ≡ rows_over column p span base (moments base.state n) last

-- a link is sending
abbrev pub is_sending : LinkState → Bool
is_sending link = is_some link.port.next_free

abbrev pub sends_from : PartState → Bool
sends_from part = list_any is_sending part.links

abbrev pub sends_any : State → Bool
sends_any s = list_any sends_from s.parts

-- a scenario's run has come to a moment: the events before it were run, and no other; all events are at most 10^15
pub record HasComeTo (p : ScenarioParts) (moment : ℕ) (s : State) : Type 0 where
  pub n : ℕ
  pub few : n ≤ MOST_EVENTS
  pub lines : List TraceLine
  pub comes : ComesTo p n lines s
  pub early : AllByRecursion (λ (line : TraceLine). line.key.time < moment) lines
  pub late : NoneBefore moment s

-- there is something to say of it from there on: an event is due, or a link sends past the last one, before the scenario's end
abbrev pub IsGoingOn : ScenarioParts → ℕ → State → Type 0
IsGoingOn p moment s = (due s ≢ None) ⊎ ((moment < p.end) × (sends_any s ≡ true))

pub record RunGoesOn (p : ScenarioParts) (moment : ℕ) : Type 0 where
  pub state : State
  pub come : HasComeTo p moment state
  pub going : IsGoingOn p moment state

pub record RunIsOver (p : ScenarioParts) (moment : ℕ) : Type 0 where
  pub state : State
  pub come : HasComeTo p moment state
  pub over : ¬ IsGoingOn p moment state

-- when a step begins, counted from 0: they are equally long
unfoldable pub begin_of : ℕ → ℕ → ℕ → ℕ
begin_of from every zero = from
begin_of from every (suc k) = begin_of from every k + every

abbrev pub span_of : ℕ → ℕ → ℕ → Span
span_of from every k = record { begin = begin_of from every k; until = begin_of from every (suc k) }

-- the rows of the first steps of a run from a moment on
pub record AreSteps (column : Option TextNames) (p : ScenarioParts) (from every : ℕ) (steps : List (List ℕ)) : Type 0 where
  pub each : (k : ℕ) → k < length steps → AreRowsOf column p (span_of from every k) (slice_index_or steps k [])
  pub on : (k : ℕ) → 0 < k → k < length steps → RunGoesOn p (begin_of from every k)

-- the heading, and the rows of the first steps; or nothing yet
pub record IsSeriesBegun (column : Option TextNames) (p : ScenarioParts) (from every : ℕ) (bytes : List ℕ) : Type 0 where
  pub steps : List (List ℕ)
  pub are : AreSteps column p from every steps
  pub bytes_are : bytes ≡ series_heading column ++ concat steps

abbrev pub IsSeriesStart : Option TextNames → ScenarioParts → ℕ → ℕ → List ℕ → Type 0
IsSeriesStart column p from every bytes = (bytes ≡ []) ⊎ IsSeriesBegun column p from every bytes

-- the heading, and the rows of each step up to where the run is over: there is one at least
pub record IsSeries (column : Option TextNames) (p : ScenarioParts) (from every : ℕ) (bytes : List ℕ) : Type 0 where
  pub begun : IsSeriesBegun column p from every bytes
  pub some : 0 < length begun.steps
  pub over : RunIsOver p (begin_of from every (length begun.steps))

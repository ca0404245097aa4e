-- What the table says of a run: over its events, and its last state.
use Rattle.std.specs.Prelude.{◌≡◌, ℕ, ◌+◌, ◌-◌, ◌*◌, ◌<◌, ◌≤◌, min, List, [], ◌∷◌, ◌++◌, length, map, Option, Some, None}
use Rattle.std.specs.List.{enumerate_from, AllByRecursion}
use Rattle.sim_time.specs.declared.limits.TheConstants.{MOST_EVENTS}
use Rattle.scenario_image.specs.declared.parts.FlowPart.{FlowPart}
use Rattle.scenario_image.specs.declared.parts.LinkPart.{LinkPart}
use Rattle.scenario_image.specs.declared.parts.ScenarioParts.{ScenarioParts}
use Rattle.node_core.specs.TraceLine.{TraceLine}
use Rattle.table_run.specs.State.{State, run, step}
use Rattle.table_run.specs.Flow.{received_next}
use Rattle.net_machine.specs.Wiring.{from_of, exit_of}
use Rattle.figures.specs.Classes.{least_of, greatest_of, percentile}
use Rattle.figures.specs.Turns.{Turn}
use Rattle.figures.specs.Senders.{sent_of_turns, again_in_recovery_of, again_otherwise_of, timeouts_of, trips_of, completed_of}
use Rattle.figures.specs.Moments.{Moment, Base, moments, turns_at}
use Rattle.figures.specs.Figures.{IsBase, NoneBefore}
use Rattle.figures.specs.Links.{port_at, waiting_at, busy_at, drops_of, tx_of, bytes_of_moments, waited_of, busy_of, longest_of, waits_of, last_from}
use Rattle.figures_text.specs.declared.summary.FlowSummary.{FlowSummary}
use Rattle.figures_text.specs.declared.summary.LinkSummary.{LinkSummary}
use Rattle.figures_text.specs.declared.summary.RunSummary.{RunSummary}
use Rattle.figures_text.specs.Table.{TextNames, table_of}

-- what is said of a flow that starts at a moment: what its sender did, behind what it had done before, and how many bytes its receiver got; when the flow was completed is told of all that the sender did
abbrev pub summary_of_turns : ℕ → ℕ → List Turn → List Turn → FlowSummary
summary_of_turns start delivered before ts = record {
  start = start;
  delivered = delivered;
  completed = completed_of (before ++ ts);
  sent = sent_of_turns ts;
  again_in_recovery = again_in_recovery_of ts;
  again_otherwise = again_otherwise_of ts;
  timeouts = timeouts_of ts;
  round_trips = length (trips_of ts);
  least = least_of (trips_of ts);
  median = percentile 50 (trips_of ts);
  high = percentile 95 (trips_of ts);
  highest = percentile 99 (trips_of ts);
  greatest = greatest_of (trips_of ts);
}

abbrev pub flow_summary : Base → List Moment → State → FlowPart → FlowSummary
flow_summary b ms s flow = summary_of_turns flow.start (received_next s flow - received_next b.state flow) (turns_at flow.sender b.earlier) (turns_at flow.sender ms)

-- what is said of a link, by the node that it leaves, and which of that node's links it is; what waits after the last event, and a link that is busy then, count up to the run's end
abbrev pub summary_of_exit : ℕ → ℕ → ℕ → Base → List Moment → State → LinkSummary
summary_of_exit node index end b ms s = record {
  offered = (port_at s node index).offered - (port_at b.state node index).offered;
  dropped = drops_of node index ms;
  sent = tx_of node index ms;
  bytes = bytes_of_moments node index ms;
  busy = busy_of node index b.since ms + busy_at (port_at s node index) * (end - last_from b.since ms);
  longest = longest_of node index ms s;
  waited = waited_of node index b.since ms + waiting_at (port_at s node index) * (end - last_from b.since ms);
  median = percentile 50 (waits_of node index ms);
  high = percentile 95 (waits_of node index ms);
  highest = percentile 99 (waits_of node index ms);
  greatest = greatest_of (waits_of node index ms);
}

abbrev pub link_summary : ScenarioParts → Base → List Moment → State → ℕ → LinkSummary
link_summary p b ms s number = summary_of_exit (from_of p.links number) (exit_of p.links number) p.end b ms s

-- and of all flows and links, by number, and the run as a whole
abbrev pub flow_summaries : ScenarioParts → Base → List Moment → State → List FlowSummary
flow_summaries p b ms s = map (flow_summary b ms s) p.flows

abbrev pub link_summaries : ScenarioParts → Base → List Moment → State → List LinkSummary
link_summaries p b ms s = map (λ (numbered : ℕ × LinkPart). link_summary p b ms s numbered.0) (enumerate_from 0 p.links)

-- when the last of some events was, if there were any
abbrev pub last_of : List Moment → Option ℕ
last_of [] = None
last_of (m ∷ ms) = Some (last_from m.line.key.time ms)

abbrev pub run_summary : List Moment → RunSummary
run_summary ms = record { events = length ms; end = last_of ms }

-- the table of a scenario's events from a base on and its last state
abbrev pub table_over : Option TextNames → ScenarioParts → Base → List Moment → State → List ℕ
table_over column p b ms s = table_of column (flow_summaries p b ms s) (link_summaries p b ms s) (run_summary ms)

-- a run is counted from a moment on, or from its end where that is earlier: the events before its base are before the moment, and none of those that follow is
pub record IsCountedFrom (p : ScenarioParts) (from : ℕ) (b : Base) : Type 0 where
  pub base : IsBase p b
  pub since : b.since ≡ min from p.end
  pub early : AllByRecursion (λ (line : TraceLine). line.key.time < from) base.lines
  pub late : NoneBefore from b.state

-- the table of a scenario's run from a moment on: of all its events at or past it, none being due after the last; all events are at most 10^15
pub record IsTableFrom (column : Option TextNames) (p : ScenarioParts) (from : ℕ) (bytes : List ℕ) : Type 0 where
  pub base : Base
  pub counted : IsCountedFrom p from base
  pub n : ℕ
  pub few : base.before + n ≤ MOST_EVENTS
  pub lines : List TraceLine
  pub last : State
  pub is_run : run base.state n ≡ Some (lines, last)
  pub final : step last ≡ None
  pub bytes_are : bytes ≡ table_over column p base (moments base.state n) last

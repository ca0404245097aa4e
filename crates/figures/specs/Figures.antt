-- The figures of a run.
use Rattle.std.specs.Prelude.{◌≡◌, ◌+◌, ◌<◌, ◌≤◌, ℕ, List, [], ◌∷◌, length, slice_index_or, Some, IfSome}
use Rattle.sim_time.specs.declared.key.Key.{Key}
use Rattle.sim_time.specs.declared.limits.TheConstants.{MOST_EVENTS}
use Rattle.scenario_image.specs.declared.parts.ScenarioParts.{ScenarioParts}
use Rattle.scenario_image.specs.Scenario.{IsScenario}
use Rattle.node_core.specs.declared.event.Event.{Event}
use Rattle.node_core.specs.Part.{sender_in}
use Rattle.node_core.specs.TraceLine.{TraceLine}
use Rattle.table_run.specs.State.{State, part_at, due, run, step, initial}
use Rattle.table_run.specs.Flow.{next_at}
use Rattle.table_run.specs.Laws.{ComesTo}
use Rattle.net_machine.specs.Run.{Reached}
use Rattle.figures.specs.declared.sender.SenderFigures.{SenderFigures}
use Rattle.figures.specs.declared.figures.Figures.{Figures}
use Rattle.figures.specs.Moments.{Moment, Base, moments, turns_at}
use Rattle.figures.specs.declared.links.NodeLinks.{NodeLinks}
use Rattle.figures.specs.Turns.{Keeps}
use Rattle.figures.specs.Senders.{AreOfTurns}
use Rattle.figures.specs.Links.{last_from, EachFreedOrOffered, AreOfNode}

-- what is counted of a node's sender, and the sender's fields now
pub record IsOfNode (b : Base) (ms : List Moment) (s : State) (node : ℕ) (f : SenderFigures) : Type 0 where
  pub counted : AreOfTurns (turns_at node b.earlier) (turns_at node ms) f
  pub keeps : IfSome (sender_in (part_at s node).role) (λ found. Keeps f.kept found.1)

-- the figures of each node are those of these events from a base on, after which the state is s
pub record AreAfter (b : Base) (ms : List Moment) (s : State) (f : Figures) : Type 0 where
  pub size : length f.senders.items ≡ length s.parts
  pub each : (node : ℕ) (counted : SenderFigures) → node < length s.parts → IsOfNode b ms s node (slice_index_or f.senders.items node counted)

-- so are those of each link
pub record AreOfLinks (b : Base) (ms : List Moment) (s : State) (all : List NodeLinks) : Type 0 where
  pub count : length all ≡ length s.parts
  pub each : (node : ℕ) (other : NodeLinks) → node < length s.parts → AreOfNode b ms s node (slice_index_or all node other).figures.items

-- all figures are those of these events from a base on, after which the state is s
pub record AreFigures (b : Base) (ms : List Moment) (s : State) (f : Figures) : Type 0 where
  pub senders : AreAfter b ms s f
  pub links : AreOfLinks b ms s f.links.items
  pub received : (node : ℕ) → slice_index_or f.received.items node 0 ≡ next_at (part_at b.state node).role
  pub events : f.events ≡ length ms
  pub last : f.last ≡ last_from b.since ms

-- when the last of some lines was; an earlier moment before the first
abbrev pub last_line : ℕ → List TraceLine → ℕ
last_line since [] = since
last_line since (line ∷ lines) = last_line line.key.time lines

-- the figures are those of some events, of which the line tells of the next
pub record Follows (f : Figures) (line : TraceLine) (after : State) : Type 0 where
  pub base : Base
  pub so_far : List Moment
  pub before : State
  pub figures : AreFigures base so_far before f
  pub next : step before ≡ Some (line, after)
  pub sends : EachFreedOrOffered before line after

-- where a run is counted from a moment on that has come here
abbrev pub base_at : ScenarioParts → ℕ → Reached → Base
base_at p since r = record { since = since; state = r.state; before = r.position; earlier = moments (initial p) r.position }

-- where it is counted from its initial state on
abbrev pub whole : ScenarioParts → Base
whole p = record { since = 0; state = initial p; before = 0; earlier = [] }

-- the scenario's run comes to a base, which is not past the end
pub record IsBase (p : ScenarioParts) (b : Base) : Type 0 where
  pub lines : List TraceLine
  pub comes : ComesTo p b.before lines b.state
  pub earlier : b.earlier ≡ moments (initial p) b.before
  pub in_time : b.since ≤ p.end

-- the figures are those of the scenario's run from a base on, up to here
pub record AreOfRun (p : ScenarioParts) (b : Base) (f : Figures) (r : Reached) : Type 0 where
  pub base : IsBase p b
  pub lines : List TraceLine
  pub comes : ComesTo p r.position lines r.state
  pub count : ℕ
  pub position : r.position ≡ b.before + count
  pub counted : List TraceLine
  pub goes_on : run b.state count ≡ Some (counted, r.state)
  pub figures : AreFigures b (moments b.state count) r.state f
  pub events : f.events ≡ count
  pub last : f.last ≡ last_line b.since counted

-- so they are from some base on
pub record AreOfPart (p : ScenarioParts) (f : Figures) (r : Reached) : Type 0 where
  pub base : Base
  pub of : AreOfRun p base f r

-- no event is due before a moment
abbrev pub NoneBefore : ℕ → State → Type 0
NoneBefore moment s = (k : Key) (v : Event) → due s ≡ Some (k, v) → moment ≤ k.time

-- the figures are those of the run of some scenario from some base on, up to here
pub record AreOfSomeRun (f : Figures) (r : Reached) : Type 0 where
  pub scenario : ScenarioParts
  pub is_scenario : IsScenario scenario
  pub fits : r.position ≤ MOST_EVENTS
  pub base : Base
  pub of : AreOfRun scenario base f r
  pub in_order : NoneBefore f.last r.state

-- The law of windows: after every schedule a turn leaves the state of the run and gives its lines, and between turns each group is at a step of the run.
use Rattle.std.specs.Prelude.{ℕ, ◌≡◌, ◌≢◌, ◌<◌, ◌+◌, ◌==◌, List, ◌++◌, length, filter, Some, None, slice_index_or}
use Rattle.std.specs.FinMap as map
use Rattle.sim_time.specs.declared.key.Key.{Key}
use Rattle.scenario_image.specs.declared.parts.ScenarioParts.{ScenarioParts}
use Rattle.scenario_image.specs.Scenario.{IsScenario}
use Rattle.node_core.specs.TraceLine.{TraceLine}
use Rattle.table_run.specs.State.{State, no_part, part_at, run}
use Rattle.table_run.specs.Laws.{ComesTo}
use Rattle.window_law.specs.Groups.{GroupState, group_at}
use Rattle.window_law.specs.Windows.{Move, Turn, Course, AreBelow, moved, went, setting_of, course_of}
use Rattle.window_law.specs.Standing.{Stands}

-- the groups hold the state after m and as many more steps as lines were given, and those are the lines
pub record IsRunOf (p : ScenarioParts) (m : ℕ) (before : List TraceLine) (group : ℕ → ℕ) (c : Course) : Type 0 where
  pub state : State
  pub comes : ComesTo p (m + length c.given) (before ++ c.given) state
  pub stands : Stands group state c.window.groups

-- from the state after m steps, held by groups: after every list of moves, whenever a turn is taken
abbrev pub EveryScheduleGivesTheRun : Type 0
EveryScheduleGivesTheRun = (p : ScenarioParts) (m : ℕ) (before : List TraceLine) (s : State) → IsScenario p → ComesTo p m before s
    → (group : ℕ → ℕ) (groups : List GroupState) → Stands group s groups → (moves : List Move)
    → moved (setting_of group p) (course_of group p groups moves).window Turn ≢ None
    → IsRunOf p m before group (went (setting_of group p) (course_of group p groups moves) Turn)

-- these lines are below the window's end, and of a group they have just those that it has made
abbrev pub AreLinesTo : (ℕ → ℕ) → Course → ℕ → List TraceLine → Type 0
AreLinesTo group c h lines = AreBelow c.window.until lines × ((group_at c.window.groups h).lines ≡ filter (λ (l : TraceLine). group l.key.node == h) lines)

-- a group has the parts of its nodes, and the events at them that are below the window's end, as a state has them
abbrev pub IsAsIn : (ℕ → ℕ) → Course → ℕ → State → Type 0
IsAsIn group c h t =
    ((node : ℕ) → group node ≡ h → part_at t node ≡ slice_index_or (group_at c.window.groups h).parts node no_part)
    × ((k : Key) → group k.node ≡ h → k.time < c.window.until → map.get t.pending k ≡ map.get (group_at c.window.groups h).pending k)

-- the lines given are those of the run to the last turn's state; and at each step of this window at which a group's events are just those that it has fired, the group is as in the run
pub record Between (group : ℕ → ℕ) (s : State) (c : Course) : Type 0 where
  pub edge : State
  pub is_run : run s (length c.given) ≡ Some (c.given, edge)
  pub inside : (j : ℕ) (lines : List TraceLine) (t : State) → run edge j ≡ Some (lines, t) → (h : ℕ) → AreLinesTo group c h lines → IsAsIn group c h t

abbrev pub EveryGroupIsTheRuns : Type 0
EveryGroupIsTheRuns = (p : ScenarioParts) (m : ℕ) (before : List TraceLine) (s : State) → IsScenario p → ComesTo p m before s
    → (group : ℕ → ℕ) (groups : List GroupState) → Stands group s groups → (moves : List Move) → Between group s (course_of group p groups moves)

-- such a step there is
pub record IsAtAStep (group : ℕ → ℕ) (edge : State) (c : Course) (h : ℕ) : Type 0 where
  pub steps : ℕ
  pub lines : List TraceLine
  pub state : State
  pub is_run : run edge steps ≡ Some (lines, state)
  pub are_lines : AreLinesTo group c h lines

-- for each group, between turns
abbrev pub EveryGroupIsAtAStep : Type 0
EveryGroupIsAtAStep = (p : ScenarioParts) (m : ℕ) (before : List TraceLine) (s : State) → IsScenario p → ComesTo p m before s
    → (group : ℕ → ℕ) (groups : List GroupState) → Stands group s groups → (moves : List Move) (b : Between group s (course_of group p groups moves))
    → (h : ℕ) → h < length (course_of group p groups moves).window.groups → IsAtAStep group b.edge (course_of group p groups moves) h

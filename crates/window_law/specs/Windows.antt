-- The window machine: groups fire below the window's end, and a turn brings them together.
use Rattle.std.specs.Prelude.{ℕ, ◌+◌, ◌<◌, min, Bool, true, false, ◌&&◌, ◌==◌, is_none, if◌then◌else◌, List, [], ◌∷◌, ◌++◌, map as each, flat_map, slice_set, Option, Some, None}
use Rattle.std.specs.Option.{option_map}
use Rattle.std.specs.List.{enumerate_from, AllByRecursion}
use Rattle.std.specs.FinMap as map
use Rattle.sim_time.specs.declared.key.Key.{Key}
use Rattle.sim_time.specs.Keys.{key_cmp}
use Rattle.tournament.specs.Keyed.{apply, entering, next_key, nothing_due}
use Rattle.tournament.specs.Gathered.{gathered}
use Rattle.scenario_image.specs.declared.parts.ScenarioParts.{ScenarioParts}
use Rattle.node_core.specs.declared.event.Event.{Event}
use Rattle.node_core.specs.Pending.{Events}
use Rattle.node_core.specs.TraceLine.{TraceLine}
use Rattle.table_run.specs.State.{due}
use Rattle.window_law.specs.Lookahead.{lesser, lookahead}
use Rattle.window_law.specs.Groups.{GroupState, group_at, up_to, fire}

-- which group a node is in; the least delay of a link between two groups, where there is one; the end of the run
pub record Setting : Type 0 where
  pub group : ℕ → ℕ
  pub ahead : Option ℕ
  pub end : ℕ

-- the groups, by number, and the window's end
pub record WindowState : Type 0 where
  pub groups : List GroupState
  pub until : ℕ

-- what may be done: a group fires once; a turn; a bound is named for the window
pub data Move : Type 0 where
  Fire : (number : ℕ) → Move
  Turn : Move
  Limit : (moment : ℕ) → Move

-- whether no group has an event below the moment
abbrev pub all_done : ℕ → List GroupState → Bool
all_done moment [] = true
all_done moment (g ∷ groups) = is_none (due (up_to moment g)) && all_done moment groups

abbrev pub is_empty : List TraceLine → Bool
is_empty [] = true
is_empty (line ∷ lines) = false

-- whether no group has fired since the last turn
abbrev pub none_fired : List GroupState → Bool
none_fired [] = true
none_fired (g ∷ groups) = is_empty g.lines && none_fired groups

-- lines in the order of their keys
abbrev pub keyed : TraceLine → Key × TraceLine
keyed line = (line.key, line)

abbrev pub in_order : List TraceLine → List TraceLine
in_order lines = map.values (map.from_entries {R = key_cmp} (each keyed lines))

-- each line is of an event before a moment
abbrev pub AreBelow : ℕ → List TraceLine → Type 0
AreBelow moment lines = AllByRecursion (λ (line : TraceLine). line.key.time < moment) lines

-- a turn: each group gets the others' outgoing messages for its nodes
abbrev pub delivered_to : (ℕ → ℕ) → Events → ℕ × GroupState → GroupState
delivered_to group held numbered = record {
  parts = numbered.1.parts;
  pending = apply (entering (map.entries (map.retain_keys held (λ k. group k.node == numbered.0)))) numbered.1.pending;
  held = nothing_due Event;
  lines = [];
}

-- what any group holds back
abbrev pub all_held : List GroupState → Events
all_held groups = gathered (each (λ (g : GroupState). g.held) groups)

abbrev pub all_lines : List GroupState → List TraceLine
all_lines groups = flat_map (λ (g : GroupState). g.lines) groups

abbrev pub groups_delivered : (ℕ → ℕ) → List GroupState → List GroupState
groups_delivered group groups = each (delivered_to group (all_held groups)) (enumerate_from 0 groups)

-- when a group's least event is
abbrev pub first_time : GroupState → Option ℕ
first_time g = option_map (λ (k : Key). k.time) (next_key g.pending)

-- the least pending time of all groups
abbrev pub soonest : List GroupState → Option ℕ
soonest [] = None
soonest (g ∷ groups) = lesser (first_time g) (soonest groups)

-- the sum, where both are there
abbrev pub sum_of : Option ℕ → Option ℕ → Option ℕ
sum_of None b = None
sum_of (Some a) None = None
sum_of (Some a) (Some b) = Some (a + b)

abbrev pub at_most : Option ℕ → ℕ → ℕ
at_most None end = end
at_most (Some a) end = min a end

-- the least pending time and the lookahead together, where both are there, or the run's end if that is less
abbrev pub window_end : Setting → List GroupState → ℕ
window_end x groups = at_most (sum_of (soonest groups) x.ahead) x.end

abbrev pub opened : Setting → List GroupState → WindowState
opened x groups = record { groups = groups; until = window_end x groups }

-- what a move leaves and which lines it gives, where it is possible: a group can fire where it has an event below the window's end; a turn can be taken where no group has one; a bound can be named where no group has fired
abbrev pub moved : Setting → WindowState → Move → Option (WindowState × List TraceLine)
moved x w (Fire number) = option_map (λ (g : GroupState). (record { groups = slice_set w.groups number g; until = w.until }, [])) (fire x.group number w.until (group_at w.groups number))
moved x w Turn = if all_done w.until w.groups then Some (opened x (groups_delivered x.group w.groups), in_order (all_lines w.groups)) else None
moved x w (Limit moment) = if none_fired w.groups then Some (record { groups = w.groups; until = min w.until moment }, []) else None

-- the windows of a scenario's run
abbrev pub setting_of : (ℕ → ℕ) → ScenarioParts → Setting
setting_of group p = record { group = group; ahead = lookahead group p.links; end = p.end }

-- where the windows are, and all lines given so far
pub record Course : Type 0 where
  pub window : WindowState
  pub given : List TraceLine

-- a move that isn't possible changes nothing
abbrev pub gone_on : Course → Option (WindowState × List TraceLine) → Course
gone_on c None = c
gone_on c (Some next) = record { window = next.0; given = c.given ++ next.1 }

abbrev pub went : Setting → Course → Move → Course
went x c move = gone_on c (moved x c.window move)

abbrev pub course : Setting → Course → List Move → Course
course x c [] = c
course x c (move ∷ moves) = course x (went x c move) moves

abbrev pub course_begun : Setting → List GroupState → Course
course_begun x groups = record { window = opened x groups; given = [] }

-- where the windows of a scenario's run are after these moves, from groups that begin there
abbrev pub course_of : (ℕ → ℕ) → ScenarioParts → List GroupState → List Move → Course
course_of group p groups moves = course (setting_of group p) (course_begun (setting_of group p) groups) moves

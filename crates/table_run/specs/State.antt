-- The net as one machine: nodes, one set of pending events, and the steps in the order of keys.
use Rattle.std.specs.Prelude.{ℕ, zero, suc, nat_lt, if◌then◌else◌, List, [], ◌∷◌, ◌++◌, map as each, slice_index_or, slice_set, Option, None, Some}
use Rattle.std.specs.List.{enumerate_from}
use Rattle.std.specs.Option.{option_map, option_and_then}
use Rattle.std.specs.FinMap as map
use Rattle.sim_time.specs.declared.key.Key.{Key}
use Rattle.scenario_image.specs.declared.parts.ScenarioParts.{ScenarioParts}
use Rattle.node_core.specs.declared.event.Event.{Event}
use Rattle.node_core.specs.declared.role.Role.TheVariants.{Routes}
use Rattle.tournament.specs.Keyed.{apply, least}
use Rattle.node_core.specs.Pending.{Events}
use Rattle.node_core.specs.Part.{PartState}
use Rattle.node_core.specs.Row.{Effect, row, changes_of}
use Rattle.node_core.specs.TraceLine.{TraceLine}
use Rattle.node_core.specs.Initial.{initial_part, start_of}

-- node k is the k-th part; one finite set of pending events; events below the end are run
pub record State : Type 0 where
  pub parts : List PartState
  pub pending : Events
  pub end : ℕ

abbrev pub no_part : PartState
no_part = record { role = Routes []; links = [] }

abbrev pub part_at : State → ℕ → PartState
part_at s node = slice_index_or s.parts node no_part

-- the event of the least key, where that is below the end
abbrev pub below : ℕ → Option (Key × Event) → Option (Key × Event)
below end None = None
below end (Some entry) = if nat_lt entry.0.time end then Some entry else None

abbrev pub due : State → Option (Key × Event)
due s = below s.end (least s.pending)

-- what the event does at its node
abbrev pub effect_of : State → Key × Event → Effect
effect_of s entry = row (part_at s entry.0.node) entry.0 entry.1

-- the event leaves, its node changes, and what it makes joins
abbrev pub stepped : State → Key → Effect → State
stepped s key effect = record { parts = slice_set s.parts key.node effect.part; pending = apply (changes_of key.node effect) (map.remove s.pending key); end = s.end }

abbrev pub line_of : Key × Event → Effect → TraceLine
line_of entry effect = record { key = entry.0; event = entry.1; after = effect.after; acts = effect.acts }

-- the line and the state after the next event, where one is due
abbrev pub step_at : State → Key × Event → TraceLine × State
step_at s entry = (line_of entry (effect_of s entry), stepped s entry.0 (effect_of s entry))

abbrev pub step : State → Option (TraceLine × State)
step s = option_map (step_at s) (due s)

-- the lines so far and the state, one step on
abbrev pub one_step_more : List TraceLine × State → Option (List TraceLine × State)
one_step_more so_far = option_map (λ (next : TraceLine × State). (so_far.0 ++ next.0 ∷ [], next.1)) (step so_far.1)

-- the lines and the state after n steps, where there are so many
abbrev pub run : State → ℕ → Option (List TraceLine × State)
run s zero = Some ([], s)
run s (suc n) = option_and_then one_step_more (run s n)

-- nothing sent, every queue empty, and each flow's start pending
abbrev pub initial : ScenarioParts → State
initial p = record { parts = each (initial_part p) (enumerate_from 0 p.nodes); pending = apply (each start_of (enumerate_from 0 p.flows)) map.empty; end = p.end }

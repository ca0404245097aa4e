-- The net split by groups of nodes: what a group holds, and how it fires its least event.
use Rattle.std.specs.Prelude.{ℕ, zero, suc, Bool, not, ◌==◌, List, [], ◌∷◌, ◌++◌, filter, slice_index_or, slice_set, unwrap_or, Option}
use Rattle.std.specs.Option.{option_map}
use Rattle.std.specs.FinMap as map
use Rattle.sim_time.specs.declared.key.Key.{Key}
use Rattle.tournament.specs.Keyed.{apply, nothing_due}
use Rattle.node_core.specs.declared.event.Event.{Event}
use Rattle.node_core.specs.Pending.{Events, EventChange}
use Rattle.node_core.specs.Part.{PartState}
use Rattle.node_core.specs.Row.{Effect, changes_of}
use Rattle.node_core.specs.TraceLine.{TraceLine}
use Rattle.table_run.specs.State.{State, due, effect_of, line_of}

-- the net's nodes, of which the group's own count; the events pending at them; and since the last turn its outgoing messages, which are the arrivals that it made for others, and its lines
pub record GroupState : Type 0 where
  pub parts : List PartState
  pub pending : Events
  pub held : Events
  pub lines : List TraceLine

abbrev pub no_group : GroupState
no_group = record { parts = []; pending = nothing_due Event; held = nothing_due Event; lines = [] }

-- the group of a number
abbrev pub group_at : List GroupState → ℕ → GroupState
group_at groups number = slice_index_or groups number no_group

-- the group as a net by itself, which runs events below a moment
abbrev pub up_to : ℕ → GroupState → State
up_to moment g = record { parts = g.parts; pending = g.pending; end = moment }

-- whether a key is at a node of a group
unfoldable pub is_own : (ℕ → ℕ) → ℕ → Key → Bool
is_own group number key = group key.node == number

-- of what is made, that at a group's own nodes
abbrev pub own_of : (ℕ → ℕ) → ℕ → List EventChange → List EventChange
own_of group number changes = filter (λ (c : EventChange). is_own group number c.0) changes

-- and that at others
abbrev pub others_of : (ℕ → ℕ) → ℕ → List EventChange → List EventChange
others_of group number changes = filter (λ (c : EventChange). not (is_own group number c.0)) changes

-- the event leaves and its node changes; what it makes for the group joins, what it makes for others is an outgoing message
abbrev pub group_fired : (ℕ → ℕ) → ℕ → GroupState → Key × Event → Effect → GroupState
group_fired group number g entry effect = record {
  parts = slice_set g.parts entry.0.node effect.part;
  pending = apply (own_of group number (changes_of entry.0.node effect)) (map.remove g.pending entry.0);
  held = apply (others_of group number (changes_of entry.0.node effect)) g.held;
  lines = g.lines ++ line_of entry effect ∷ [];
}

-- the row of an event at its node
abbrev pub fire_on : (ℕ → ℕ) → ℕ → ℕ → GroupState → Key × Event → GroupState
fire_on group number moment g entry = group_fired group number g entry (effect_of (up_to moment g) entry)

-- the group after its least event, where that is below the moment
abbrev pub fire : (ℕ → ℕ) → ℕ → ℕ → GroupState → Option GroupState
fire group number moment g = option_map (fire_on group number moment g) (due (up_to moment g))

-- the same, unchanged where nothing is below
abbrev pub fire_or_stay : (ℕ → ℕ) → ℕ → ℕ → GroupState → GroupState
fire_or_stay group number moment g = unwrap_or (fire group number moment g) g

-- one group fires, where it can
abbrev pub fire_at : (ℕ → ℕ) → ℕ → ℕ → List GroupState → List GroupState
fire_at group moment number groups = slice_set groups number (fire_or_stay group number moment (group_at groups number))

-- one firing after another
abbrev pub fires : (ℕ → ℕ) → ℕ → List ℕ → List GroupState → List GroupState
fires group moment [] groups = groups
fires group moment (number ∷ numbers) groups = fires group moment numbers (fire_at group moment number groups)

-- a group after so many firings
abbrev pub fire_times : (ℕ → ℕ) → ℕ → ℕ → ℕ → GroupState → GroupState
fire_times group number moment zero g = g
fire_times group number moment (suc times) g = fire_times group number moment times (fire_or_stay group number moment g)

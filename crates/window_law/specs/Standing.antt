-- Groups that hold a state of the net: how it is split, and how it is put together again.
use Rattle.std.specs.Prelude.{ℕ, zero, suc, ◌≡◌, ◌<◌, ◌+◌, ◌==◌, if◌then◌else◌, List, [], ◌∷◌, length, map as each, slice_index_or, None}
use Rattle.std.specs.FinMap as map
use Rattle.sim_time.specs.declared.key.Key.{Key}
use Rattle.tournament.specs.Keyed.{nothing_due}
use Rattle.tournament.specs.Gathered.{gathered}
use Rattle.node_core.specs.declared.event.Event.{Event}
use Rattle.node_core.specs.Part.{PartState}
use Rattle.table_run.specs.State.{State, no_part, part_at}
use Rattle.window_law.specs.Groups.{GroupState, group_at}

-- the groups hold the state: each has the parts of its nodes and the events at them, no message is outgoing, no line was made
pub record Stands (group : ℕ → ℕ) (s : State) (groups : List GroupState) : Type 0 where
  pub few : (node : ℕ) → group node < length groups
  pub sizes : (node : ℕ) → length (group_at groups (group node)).parts ≡ length s.parts
  pub parts : (node : ℕ) → part_at s node ≡ slice_index_or (group_at groups (group node)).parts node no_part
  pub pending : (h : ℕ) (k : Key) → map.get (group_at groups h).pending k ≡ (if group k.node == h then map.get s.pending k else None)
  pub held : (h : ℕ) → (group_at groups h).held ≡ nothing_due Event
  pub lines : (h : ℕ) → (group_at groups h).lines ≡ []

-- each group gets the events at its nodes
abbrev pub part_of : (ℕ → ℕ) → State → ℕ → GroupState
part_of group s number = record { parts = s.parts; pending = map.retain_keys s.pending (λ k. group k.node == number); held = nothing_due Event; lines = [] }

abbrev pub split_from : (ℕ → ℕ) → State → ℕ → ℕ → List GroupState
split_from group s number zero = []
split_from group s number (suc count) = part_of group s number ∷ split_from group s (number + 1) count

-- a state as so many groups
abbrev pub split : (ℕ → ℕ) → ℕ → State → List GroupState
split group count s = split_from group s 0 count

abbrev pub SplitStands : Type 0
SplitStands = (group : ℕ → ℕ) (count : ℕ) (s : State) → ((node : ℕ) → group node < count) → Stands group s (split group count s)

abbrev pub joined_parts : (ℕ → ℕ) → List GroupState → ℕ → ℕ → List PartState
joined_parts group groups node zero = []
joined_parts group groups node (suc count) = slice_index_or (group_at groups (group node)).parts node no_part ∷ joined_parts group groups (node + 1) count

-- groups as the state of so many nodes
abbrev pub joined : (ℕ → ℕ) → ℕ → ℕ → List GroupState → State
joined group nodes end groups = record {
  parts = joined_parts group groups 0 nodes;
  pending = gathered (each (λ (g : GroupState). g.pending) groups);
  end = end;
}

abbrev pub JoinedIsTheState : Type 0
JoinedIsTheState = (group : ℕ → ℕ) (s : State) (groups : List GroupState) → Stands group s groups → joined group (length s.parts) s.end groups ≡ s

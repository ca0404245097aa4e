-- The nodes of a net, and what is pending at all of them.
use Rattle.std.specs.Prelude.{◌≡◌, ◌<◌, ℕ, List, [], map as each, length, slice_index_or, Option, Some, None}
use Rattle.std.specs.List.{enumerate_from}
use Rattle.sim_time.specs.declared.key.Key.{Key}
use Rattle.scenario_image.specs.declared.parts.ScenarioParts.{ScenarioParts}
use Rattle.tournament.specs.Leading.{Leads}
use Rattle.tournament.specs.Timed.{times_of}
use Rattle.tournament.specs.Keyed.{least, next_key, nothing_due}
use Rattle.tournament.specs.Gathered.{gathered, AtHome}
use Rattle.node_core.specs.declared.event.Event.{Event}
use Rattle.node_core.specs.Pending.{Events}
use Rattle.node_core.specs.Part.{PartState}
use Rattle.node_core.specs.Node.{NodeState, initial_node}
use Rattle.table_run.specs.State.{State, no_part}
use Rattle.net_machine.specs.Run.{Reached}

abbrev pub no_node : NodeState
no_node = record { number = 0; part = no_part; incoming = []; pending = nothing_due Event }

abbrev pub node_at : List NodeState → ℕ → NodeState
node_at nodes i = slice_index_or nodes i no_node

-- the nodes of a scenario, before anything is sent
abbrev pub initial_nodes : ScenarioParts → List NodeState
initial_nodes p = each (initial_node p) (enumerate_from 0 p.nodes)

-- what is pending at each
abbrev pub pendings : List NodeState → List Events
pendings nodes = each (λ (n : NodeState). n.pending) nodes

-- the next key of each
abbrev pub next_keys : List NodeState → List (Option Key)
next_keys nodes = each next_key (pendings nodes)

-- and its time
abbrev pub next_times : List NodeState → List (Option ℕ)
next_times nodes = times_of (next_keys nodes)

-- a node has the key that leads, and that is of this time
pub record LeadsAt (nodes : List NodeState) (place time : ℕ) : Type 0 where
  pub key : Key
  pub leads : Leads (next_keys nodes) place key
  pub at_time : key.time ≡ time

-- what is pending at all of them
abbrev pub net_pending : List NodeState → Events
net_pending nodes = gathered (pendings nodes)

abbrev pub parts_of : List NodeState → List PartState
parts_of nodes = each (λ (n : NodeState). n.part) nodes

-- the state that nodes are in
abbrev pub net_state : List NodeState → ℕ → State
net_state nodes end = record { parts = parts_of nodes; pending = net_pending nodes; end = end }

-- and how many events were run to it
abbrev pub reached : List NodeState → ℕ → ℕ → Reached
reached nodes end position = record { state = net_state nodes end; position = position }

-- node i is the i-th, and each key names its node
pub record IsPlaced (nodes : List NodeState) : Type 0 where
  pub number : (i : ℕ) → i < length nodes → (node_at nodes i).number ≡ i
  pub at_home : AtHome (λ k. k.node) (pendings nodes)

-- what is pending first at a node is what is pending first at all
pub record IsFirst (nodes : List NodeState) (place : ℕ) : Type 0 where
  pub within : place < length nodes
  pub same : least (net_pending nodes) ≡ least (node_at nodes place).pending

-- at some places there is a copy of the node there
abbrev pub AreCopies : List NodeState → List (Option NodeState) → Type 0
AreCopies nodes copies = (i : ℕ) (copy : NodeState) → slice_index_or copies i None ≡ Some copy → copy ≡ node_at nodes i

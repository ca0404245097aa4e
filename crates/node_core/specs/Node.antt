-- A node with what is pending at it.
use Rattle.std.specs.Prelude.{◌≡◌, ℕ, ◌+◌, List, [], ◌∷◌, ◌++◌, length, map as each, slice_index_or, slice_set, Option, None, Some}
use Rattle.std.specs.FinMap as map
use Rattle.sim_time.specs.declared.key.Key.{Key}
use Rattle.packet_chain.specs.Stamped.{Stamped}
use Rattle.node_core.specs.declared.event.Event.{Event}
use Rattle.tournament.specs.Keyed.{apply, entering, least, nothing_due}
use Rattle.node_core.specs.Pending.{Events}
use Rattle.scenario_image.specs.declared.parts.NodeKind.{NodeKind}
use Rattle.scenario_image.specs.declared.parts.LinkPart.{LinkPart}
use Rattle.scenario_image.specs.declared.parts.ScenarioParts.{ScenarioParts}
use Rattle.node_core.specs.Part.{PartState}
use Rattle.node_core.specs.TraceLine.{TraceLine}
use Rattle.node_core.specs.WireState.{arrivals}
use Rattle.node_core.specs.EventQueueState.{Incoming, incoming_at}
use Rattle.node_core.specs.Initial.{initial_part, coming_links, starting_flows, start_of}
use Rattle.node_core.specs.Row.{Effect, Leaving, row, home_changes}

-- a node of a number: what it is, its incoming links in rising number, and the events that are pending at it
pub record NodeState : Type 0 where
  pub number : ℕ
  pub part : PartState
  pub incoming : List Incoming
  pub pending : Events

-- the packet that leaves goes to its link's chain, stamped with its arrival
abbrev pub put_out : Option Leaving → List (List Stamped) → List (List Stamped)
put_out None chains = chains
put_out (Some leaving) chains = slice_set chains leaving.index (slice_index_or chains leaving.index [] ++ (leaving.departure.packet, leaving.departure.arrival) ∷ [])

-- the node after its event: the event leaves, the row is done, and what it makes at the node joins
abbrev pub fired : NodeState → Key → Effect → NodeState
fired node key effect = record node { part = effect.part; pending = apply (home_changes node.number effect) (map.remove node.pending key) }

-- so many packets have come over an incoming link, which are pending from now on
abbrev pub delivered : NodeState → ℕ → List Stamped → NodeState
delivered node index packets =
    let over = incoming_at node.incoming index in
    record node {
      incoming = slice_set node.incoming index (record over { came = over.came + length packets });
      pending = apply (entering (arrivals node.number over.link over.came packets)) node.pending;
    }

-- what a node of a scenario is at first: its flow's start is pending where it sends one, and nothing has come
abbrev pub initial_node : ScenarioParts → ℕ × NodeKind → NodeState
initial_node p numbered = record {
  number = numbered.0;
  part = initial_part p numbered;
  incoming = each (λ (x : ℕ × LinkPart). record { link = x.0; came = 0 }) (coming_links p.links numbered.0);
  pending = apply (each start_of (starting_flows p.flows numbered.0)) (nothing_due Event);
}

-- a node has run the event of its least key: what the row says of the node, of the packet that leaves, and of the line
pub record HasFired (old new : NodeState) (chains after : List (List Stamped)) (line : TraceLine) : Type 0 where
  pub is_least : least old.pending ≡ Some (line.key, line.event)
  pub node : new ≡ fired old line.key (row old.part line.key line.event)
  pub out : after ≡ put_out (row old.part line.key line.event).leaving chains
  pub shows : line.after ≡ (row old.part line.key line.event).after
  pub did : line.acts ≡ (row old.part line.key line.event).acts

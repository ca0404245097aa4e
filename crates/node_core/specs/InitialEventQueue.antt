-- What is pending at a node of a scenario, before anything is sent.
use Rattle.std.specs.Prelude.{◌≡◌, ◌==◌, ◌<◌, ◌≤◌, ℕ, List, ◌∷◌, map, length, find, replicate, Option, None}
use Rattle.std.specs.List.{enumerate_from}
use Rattle.std.specs.Option.{option_map}
use Rattle.scenario_image.specs.declared.parts.LinkPart.{LinkPart}
use Rattle.scenario_image.specs.declared.parts.FlowPart.{FlowPart}
use Rattle.scenario_image.specs.declared.parts.ScenarioParts.{ScenarioParts}
use Rattle.scenario_image.specs.Scenario.{IsScenario}
use Rattle.scenario_image.specs.LinkLimits.{IsLinkInLimits}
use Rattle.tournament.specs.Keyed.{apply, nothing_due}
use Rattle.node_core.specs.declared.event.Event.{Event}
use Rattle.node_core.specs.InStep.{flow_of}
use Rattle.node_core.specs.EventQueueState.{EventQueueState}
use Rattle.node_core.specs.Initial.{node_kind, leaving_links, coming_links, initial_role, starting_flows, start_of}

-- the numbers of links
abbrev pub numbers_of : List (ℕ × LinkPart) → List ℕ
numbers_of = map (λ (x : ℕ × LinkPart). x.0)

-- a link of some scenario, and its number
pub record IsLinkOf (number : ℕ) (part : LinkPart) : Type 0 where
  pub number_fits : number < 1024
  pub limits : (nodes : ℕ) × IsLinkInLimits nodes part

-- a node of a scenario, and the numbers of the links that leave it
pub record IsNodeOf (p : ScenarioParts) (node : ℕ) (leaving : List ℕ) : Type 0 where
  pub scenario : IsScenario p
  pub within : node < length p.nodes
  pub few : length leaving ≤ 1024
  pub leave_it : leaving ≡ numbers_of (leaving_links p.links node)

-- the flow that a node sends, or receives, with its number, if there is one
abbrev pub flow_sent : List FlowPart → ℕ → Option (ℕ × FlowPart)
flow_sent flows node = find (λ (x : ℕ × FlowPart). x.1.sender == node) (enumerate_from 0 flows)

abbrev pub flow_received : List FlowPart → ℕ → Option (ℕ × FlowPart)
flow_received flows node = find (λ (x : ℕ × FlowPart). x.1.receiver == node) (enumerate_from 0 flows)

-- when the flow that a node sends starts, if it sends one
abbrev pub start_at : List FlowPart → ℕ → Option ℕ
start_at flows node = option_map (λ (x : ℕ × FlowPart). x.1.start) (flow_sent flows node)

-- a node's timers and what comes over its links: its flow's start is pending where it sends one, and nothing else
abbrev pub initial_event_queue : ScenarioParts → ℕ → EventQueueState
initial_event_queue p node = record {
  owner = record { node = node; flow = flow_of (initial_role p node (node_kind p node)); exits = numbers_of (leaving_links p.links node) };
  timers = start_at p.flows node ∷ None ∷ None ∷ replicate (length (leaving_links p.links node)) None;
  incoming = map (λ (x : ℕ × LinkPart). record { link = x.0; came = 0 }) (coming_links p.links node);
  pending = apply (map start_of (starting_flows p.flows node)) (nothing_due Event);
}

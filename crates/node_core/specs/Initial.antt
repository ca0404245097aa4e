-- The nodes of a scenario, before anything is sent.
use Rattle.std.specs.Prelude.{ℕ, ◌==◌, List, map, filter, find, slice_index_or, unwrap_or, Option, Some}
use Rattle.std.specs.List.{enumerate_from, position}
use Rattle.std.specs.Option.{option_and_then}
use Rattle.scenario_image.specs.declared.parts.NodeKind.{NodeKind}
use Rattle.scenario_image.specs.declared.parts.NodeKind.TheVariants.{Sender, Receiver, Router}
use Rattle.scenario_image.specs.declared.parts.LinkPart.{LinkPart}
use Rattle.scenario_image.specs.declared.parts.FlowPart.{FlowPart}
use Rattle.scenario_image.specs.declared.parts.ScenarioParts.{ScenarioParts}
use Rattle.scenario_image.specs.Paths.{route_link}
use Rattle.scenario_image.specs.Plain.{plain_flow}
use Rattle.scenario_image.specs.Settings.{sender_settings}
use Rattle.reno_sender.specs.Table.{initial_fields}
use Rattle.reno_receiver.specs.Received.{initial_receiver}
use Rattle.aqm.specs.Queue.{initial_queue}
use Rattle.port.specs.Port.{initial_port}
use Rattle.node_core.specs.declared.event.Event.TheVariants.{Start}
use Rattle.node_core.specs.declared.timer.Timer.TheVariants.{Start as FlowStarts}
use Rattle.node_core.specs.declared.role.Role.{Role}
use Rattle.node_core.specs.declared.role.Role.TheVariants.{Sends, Receives, Routes}
use Rattle.node_core.specs.declared.routes.FlowExits.{FlowExits}
use Rattle.node_core.specs.Timers.{timer_key}
use Rattle.node_core.specs.Pending.{EventChange}
use Rattle.node_core.specs.Part.{LinkState, PartState}

-- what a scenario's node is
abbrev pub node_kind : ScenarioParts → ℕ → NodeKind
node_kind p node = slice_index_or p.nodes node Router

-- a link with its number, before anything was offered to it
abbrev pub initial_link : ℕ × LinkPart → LinkState
initial_link numbered = record { to = numbered.1.to; port = initial_port numbered.0 numbered.1.rate numbered.1.delay numbered.1.lose (initial_queue numbered.1.queue numbered.1.capacity) }

-- the links that leave a node with their numbers, which rise
abbrev pub leaving_links : List LinkPart → ℕ → List (ℕ × LinkPart)
leaving_links links node = filter (λ (x : ℕ × LinkPart). x.1.from == node) (enumerate_from 0 links)

abbrev pub initial_links : List LinkPart → ℕ → List LinkState
initial_links links node = map initial_link (leaving_links links node)

-- which of a node's links goes to a destination by the node's route
abbrev pub exit_to : ScenarioParts → ℕ → ℕ → Option ℕ
exit_to p node destination = option_and_then (λ number. position (λ (x : ℕ × LinkPart). x.0 == number) (leaving_links p.links node)) (route_link p.routes node destination)

-- a router sends a flow's segments to its receiver, the acknowledgements to its sender
abbrev pub exits_of : ScenarioParts → ℕ → FlowPart → FlowExits
exits_of p node flow = record { for_data = exit_to p node flow.receiver; for_acks = exit_to p node flow.sender }

abbrev pub no_flow : ℕ × FlowPart
no_flow = (0, plain_flow 0 0)

-- the flow that a node sends, or receives, with its number
abbrev pub flow_from : List FlowPart → ℕ → ℕ × FlowPart
flow_from flows node = unwrap_or (find (λ (x : ℕ × FlowPart). x.1.sender == node) (enumerate_from 0 flows)) no_flow

abbrev pub flow_to : List FlowPart → ℕ → ℕ × FlowPart
flow_to flows node = unwrap_or (find (λ (x : ℕ × FlowPart). x.1.receiver == node) (enumerate_from 0 flows)) no_flow

abbrev pub sends : ℕ × FlowPart → Role
sends numbered = Sends numbered.0 (initial_fields (sender_settings numbered.1))

abbrev pub receives : ℕ × FlowPart → Role
receives numbered = Receives numbered.0 (initial_receiver numbered.1.mss numbered.1.delack)

abbrev pub initial_role : ScenarioParts → ℕ → NodeKind → Role
initial_role p node Sender = sends (flow_from p.flows node)
initial_role p node Receiver = receives (flow_to p.flows node)
initial_role p node Router = Routes (map (exits_of p node) p.flows)

abbrev pub initial_part : ScenarioParts → ℕ × NodeKind → PartState
initial_part p numbered = record { role = initial_role p numbered.0 numbered.1; links = initial_links p.links numbered.0 }

-- the timer that starts a flow
abbrev pub start_of : ℕ × FlowPart → EventChange
start_of numbered = (timer_key numbered.1.sender FlowStarts numbered.1.start, Some (Start numbered.0))

-- the links that end at a node with their numbers, which rise
abbrev pub coming_links : List LinkPart → ℕ → List (ℕ × LinkPart)
coming_links links node = filter (λ (x : ℕ × LinkPart). x.1.to == node) (enumerate_from 0 links)

-- the flows that start at a node
abbrev pub starting_flows : List FlowPart → ℕ → List (ℕ × FlowPart)
starting_flows flows node = filter (λ (x : ℕ × FlowPart). x.1.sender == node) (enumerate_from 0 flows)

-- The lines of a dump that tell of one node, of one link or of one flow.
use Rattle.std.specs.Prelude.{ℕ, ◌==◌, Bool, false, if◌then◌else◌, List, [], Option, None, Some}
use Rattle.std.specs.List.{flat_map, enumerate_from, list_any, slice_get}
use Rattle.std.specs.FinMap as map
use Rattle.packet_chain.specs.Stamped.{Stamped}
use Rattle.sim_time.specs.declared.key.Key.{Key}
use Rattle.aqm.specs.Queue.{waiting_in}
use Rattle.node_core.specs.declared.event.Event.{Event}
use Rattle.node_core.specs.declared.event.Event.TheVariants.{Start, Rto, DelAck, Free, Arrive}
use Rattle.node_core.specs.declared.role.Role.{Role}
use Rattle.node_core.specs.declared.role.Role.TheVariants.{Sends, Receives, Routes}
use Rattle.node_core.specs.Part.{LinkState, PartState}
use Rattle.table_run.specs.State.{State}
use Rattle.net_machine.specs.Run.{Reached}
use Rattle.trace_text.specs.declared.dump.DumpPart.{DumpPart}
use Rattle.trace_text.specs.declared.dump.DumpPart.TheVariants.{Node, Link, Flow}
use Rattle.trace_text.specs.Words.{◌+++◌}
use Rattle.trace_text.specs.Dump.{node_line, link_line, links_numbered, links_in_order, event_line}

-- nothing where there is no node
abbrev pub found_node : ℕ → Option PartState → List ℕ
found_node number None = []
found_node number (Some part) = node_line (number, part)

-- a node is an end of a flow: it sends the flow's data, or receives it
abbrev pub is_end_of : ℕ → Role → Bool
is_end_of flow (Sends own sender) = own == flow
is_end_of flow (Receives own receiver) = own == flow
is_end_of flow (Routes table) = false

-- a packet of a flow waits in a link's queue
abbrev pub has_waiting : ℕ → LinkState → Bool
has_waiting flow link = list_any (λ (cell : Stamped). cell.0.flow == flow) (waiting_in link.port.queue)

-- an event is a timer of a flow, or brings a packet of it
abbrev pub is_event_of : ℕ → Event → Bool
is_event_of flow (Start own) = own == flow
is_event_of flow (Rto own) = own == flow
is_event_of flow (DelAck own) = own == flow
is_event_of flow (Free link) = false
is_event_of flow (Arrive packet) = packet.flow == flow

-- the lines that tell of a flow, and none of any other
abbrev pub flow_node : ℕ → ℕ × PartState → List ℕ
flow_node flow numbered = if is_end_of flow numbered.1.role then node_line numbered else []

abbrev pub flow_link : ℕ → LinkState → List ℕ
flow_link flow link = if has_waiting flow link then link_line link else []

abbrev pub flow_event : ℕ → Key × Event → List ℕ
flow_event flow entry = if is_event_of flow entry.1 then event_line entry else []

-- both ends of a flow; each link where a packet of it waits; each pending event of it: in the order of the dump
abbrev pub flow_bytes : ℕ → State → List ℕ
flow_bytes flow state =
    flat_map (flow_node flow) (enumerate_from 0 state.parts)
    +++ flat_map (flow_link flow) (links_in_order state.parts)
    +++ flat_map (flow_event flow) (map.entries state.pending)

-- the lines of a part of the dump
abbrev pub part_bytes : DumpPart → Reached → List ℕ
part_bytes (Node number) net = found_node number (slice_get net.state.parts number)
part_bytes (Link number) net = flat_map link_line (links_numbered net.state.parts number)
part_bytes (Flow number) net = flow_bytes number net.state

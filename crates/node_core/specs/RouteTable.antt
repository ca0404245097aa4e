-- Where a router sends the packets of each flow.
use Rattle.std.specs.Prelude.{ℕ, List, Option}
use Rattle.std.specs.List.{slice_get}
use Rattle.std.specs.Option.{option_and_then}
use Rattle.packet_chain.specs.declared.packet.Packet.{Packet}
use Rattle.packet_chain.specs.declared.packet.Kind.{Kind}
use Rattle.packet_chain.specs.declared.packet.Kind.TheVariants.{Data, Ack}
use Rattle.node_core.specs.declared.routes.FlowExits.{FlowExits}

-- which link a flow's packets of a kind take
abbrev pub exit_of_kind : Kind → FlowExits → Option ℕ
exit_of_kind Data exits = exits.for_data
exit_of_kind Ack exits = exits.for_acks

-- which link a packet takes
abbrev pub exit_for : List FlowExits → Packet → Option ℕ
exit_for table packet = option_and_then (exit_of_kind packet.kind) (slice_get table packet.flow)

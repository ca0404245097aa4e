-- For how many acts a call needs room.
use Rattle.std.specs.Prelude.{ℕ, if◌then◌else◌, length, is_none}
use Rattle.packet_chain.specs.declared.packet.Packet.{Packet}
use Rattle.aqm.specs.Queue.{taken_from}
use Rattle.port.specs.Port.{PortState, with_packet}

-- how many packets the queue drops where the port takes at a moment
abbrev pub drops_at : ℕ → PortState → ℕ
drops_at now port = length (taken_from port.queue now).dropped

-- how many it drops where a packet is offered: a busy link takes nothing
abbrev pub drops_at_offer : ℕ → PortState → Packet → ℕ
drops_at_offer now port packet = if is_none port.next_free then drops_at now (with_packet now port packet) else 0

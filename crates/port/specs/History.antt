-- What is done at a port in turn.
use Rattle.std.specs.Prelude.{◌≡◌, ◌≤◌, ℕ, List, [], ◌∷◌, ◌++◌, option_to_list, Some}
use Rattle.packet_chain.specs.declared.packet.Packet.{Packet}
use Rattle.port.specs.declared.acts.Act.{Act}
use Rattle.port.specs.Port.{PortState, PortStep, Departure, offered_one, taken}

-- at a moment a packet is offered, or the link has sent a packet and takes the next
pub data Call : Type 0 where
  Offer : ℕ → Packet → Call
  Free : ℕ → Call

abbrev pub called : PortState → Call → PortStep
called port (Offer now packet) = offered_one now port packet
called port (Free now) = taken now port

-- the port afterwards, all that departed and all that happened, in order
pub record History : Type 0 where
  pub port : PortState
  pub departures : List Departure
  pub acts : List Act

abbrev pub history : PortState → List Call → History
history port [] = record { port = port; departures = []; acts = [] }
history port (call ∷ calls) =
    let first = called port call in
    let others = history first.port calls in
    record { port = others.port; departures = option_to_list first.departure ++ others.departures; acts = first.acts ++ others.acts }

-- the packets that are offered, in order
abbrev pub offered_in : List Call → List Packet
offered_in [] = []
offered_in (Offer now packet ∷ calls) = packet ∷ offered_in calls
offered_in (Free now ∷ calls) = offered_in calls

-- from a moment on, moments never fall, and a link takes when it has sent a packet
abbrev pub AreTimely : ℕ → PortState → List Call → Type 0
AreTimely since port [] = Unit {0}
AreTimely since port (Offer now packet ∷ calls) = (since ≤ now) × AreTimely now (offered_one now port packet).port calls
AreTimely since port (Free now ∷ calls) = (since ≤ now) × (port.next_free ≡ Some now) × AreTimely now (taken now port).port calls

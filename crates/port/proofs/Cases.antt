-- A taking and an offering by their cases.
use Rattle.std.proofs.Common.{◌≡◌, ℕ, ◌+◌, Bool, cond, [], ◌∷◌, Option, Some, None, refl}
use Rattle.std.specs.Prelude.{is_none}
use Rattle.packet_chain.specs.declared.packet.Packet.{Packet}
use Rattle.packet_chain.specs.Stamped.{Stamped}
use Rattle.aqm.specs.Queue.{refuses, offer_reason}
use Rattle.port.specs.declared.acts.Act.TheVariants.{Dropped}
use Rattle.aqm.specs.declared.drop_reason.DropReason.TheVariants.{Lost, Offer}
use Rattle.port.specs.Losses.{is_lost}
use Rattle.port.specs.Port.{PortState, PortStep, begun, taken, only, with_packet, offered_one}

abbrev pub counted_one : PortState → PortState
counted_one port = record port { offered = port.offered + 1 }

-- an offering, by whether the packet is lost, the queue refuses it and the link is idle
abbrev pub after_tests : ℕ → PortState → Packet → Bool → Bool → Bool → PortStep
after_tests now port packet lost full idle =
    cond lost (only port (Dropped port.link Lost packet ∷ [])) (cond full (only (with_packet now port packet) (Dropped port.link (Offer (offer_reason port.queue)) packet ∷ [])) (cond idle (taken now (with_packet now port packet)) (only (with_packet now port packet) [])))

-- so what holds in each of these cases holds of an offering
pub offered_by_case : (P : PortStep → Type 0) (now : ℕ) (port : PortState) (packet : Packet)
    → ((idle : Bool) → is_none port.next_free ≡ idle → (lost full : Bool) → refuses port.queue ≡ full → P (after_tests now (counted_one port) packet lost full idle)) → P (offered_one now port packet)
offered_by_case P now port packet each = each (is_none port.next_free) refl (is_lost port.lose (port.offered + 1)) (refuses port.queue) refl

-- beginning to send leaves the queue as it is
pub queue_stays : (now : ℕ) (port : PortState) (given : Option Stamped) → (begun now port given).port.queue ≡ port.queue
queue_stays now port None = refl
queue_stays now port (Some cell) = refl

-- What becomes of each packet that is offered.
use Rattle.std.specs.Prelude.{◌≡◌, Bool, true, false, not, List, ◌++◌, map, filter}
use Rattle.packet_chain.specs.declared.packet.Packet.{Packet}
use Rattle.aqm.specs.declared.drop_reason.DropReason.{DropReason}
use Rattle.aqm.specs.declared.drop_reason.DropReason.TheVariants.{Lost, Offer}
use Rattle.aqm.specs.Queue.{waiting_in}
use Rattle.port.specs.declared.acts.Act.{Act}
use Rattle.port.specs.declared.acts.Act.TheVariants.{Tx, Dropped}
use Rattle.port.specs.Port.{PortState}
use Rattle.port.specs.History.{Call, History, history, offered_in}

-- a packet is dropped for a reason, or sent, or it still waits
pub data Fate : Type 0 where
  Drop : DropReason → Fate
  Send : Fate
  Wait : Fate

abbrev pub reported_by : Act → Packet × Fate
reported_by (Tx link packet) = (packet, Send)
reported_by (Dropped link reason packet) = (packet, Drop reason)

-- what the acts tell, in their order, and then the queue
abbrev pub reported : History → List (Packet × Fate)
reported h = map reported_by h.acts ++ map (λ cell. (cell.0, Wait)) (waiting_in h.port.queue)

-- it was let into the queue: neither lost nor dropped as it was offered
abbrev pub has_entered : Packet × Fate → Bool
has_entered (packet, Drop Lost) = false
has_entered (packet, Drop (Offer reason)) = false
has_entered (packet, fate) = true

-- these are the packets that waited and those that were offered, each with one fate; those that were refused are in the order in which the acts tell so, and those that entered are in the order in which they left, and then as they wait
pub record AreFates (port : PortState) (calls : List Call) (fates : List (Packet × Fate)) : Type 0 where
  pub each_once : map (λ f. f.0) fates ≡ map (λ cell. cell.0) (waiting_in port.queue) ++ offered_in calls
  pub refused : filter (λ f. not (has_entered f)) fates ≡ filter (λ f. not (has_entered f)) (reported (history port calls))
  pub entered : filter has_entered fates ≡ filter has_entered (reported (history port calls))

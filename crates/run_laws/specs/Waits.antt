-- How long packets wait at a link.
use Rattle.std.specs.Prelude.{◌≡◌, ◌≢◌, ℕ, List, [], ◌++◌, map, take, None, Some}
use Rattle.std.specs.List.{filter_map}
use Rattle.packet_chain.specs.declared.packet.Packet.{Packet}
use Rattle.packet_chain.specs.Stamped.{Stamped}
use Rattle.aqm.specs.Queue.{waiting_in}
use Rattle.port.specs.declared.acts.Act.{Act}
use Rattle.port.specs.Laws.{sent_by}
use Rattle.port.specs.Port.{PortState}
use Rattle.run_laws.specs.Links.{left_by}

-- packets that were offered at a moment
abbrev pub offered_at : ℕ → List Packet → List Stamped
offered_at now packets = map (λ (x : Packet). (x, now)) packets

-- each packet waits with the moment at which it was offered, until it leaves; an idle link sends the first that joins in that event, so that it waited for 0; at a busy link none leaves before it is free
pub record WaitsFromOffer (now : ℕ) (old : PortState) (acts : List Act) (new : PortState) : Type 0 where
  pub left : List Stamped
  pub joined : List Packet
  pub leave : filter_map left_by acts ≡ map (λ (cell : Stamped). cell.0) left
  pub moments : left ++ waiting_in new.queue ≡ waiting_in old.queue ++ offered_at now joined
  pub at_once : old.next_free ≡ None → (left ≡ offered_at now (take 1 joined)) × (filter_map sent_by acts ≡ take 1 joined)
  pub busy : (t : ℕ) → old.next_free ≡ Some t → t ≢ now → left ≡ []

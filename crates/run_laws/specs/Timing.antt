-- How long a packet takes over a link.
use Rattle.std.specs.Prelude.{◌≡◌, ℕ, ◌+◌, ◌==◌, ◌<◌, length, filter, Contains, Some}
use Rattle.std.specs.List.{slice_get, filter_map}
use Rattle.std.specs.FinMap as finmap
use Rattle.sim_time.specs.Serial.{IsLeastSerial}
use Rattle.packet_chain.specs.declared.packet.Packet.{Packet}
use Rattle.scenario_image.specs.declared.parts.LinkPart.{LinkPart}
use Rattle.scenario_image.specs.declared.parts.ScenarioParts.{ScenarioParts}
use Rattle.port.specs.Laws.{sent_by}
use Rattle.port.specs.Port.{PortState}
use Rattle.node_core.specs.declared.event.Event.TheVariants.{Arrive}
use Rattle.node_core.specs.Pending.{Events}
use Rattle.table_run.specs.State.{part_at, effect_of, stepped}
use Rattle.table_run.specs.Laws.{AtEachEvent}
use Rattle.run_laws.specs.Links.{link_of, port_of_link}

-- a packet that begins to be sent: the link is busy until all its bits are out at the scenario's rate, to the nanosecond, and the packet arrives at the link's end a delay later, under the number of packets that the link has sent
pub record TakesItsTime (p : ScenarioParts) (now : ℕ) (x : Packet) (port : PortState) (events : Events) : Type 0 where
  pub link : LinkPart
  pub its_link : slice_get p.links port.link ≡ Some link
  pub time : ℕ
  pub bits_take : IsLeastSerial x.bytes link.rate time
  pub busy : port.next_free ≡ Some (now + time)
  pub arrives : finmap.get events (record { time = now + time + link.delay; node = link.to; source = port.link + 1; number = port.sent }) ≡ Some (Arrive x)

-- each packet that a link begins to send does so
abbrev pub LinksTakeTheirTime : Type 0
LinksTakeTheirTime = AtEachEvent (λ p s k v. (node index : ℕ) → index < length (part_at s node).links → (x : Packet)
    → let e = effect_of s (k, v) in Contains (filter_map sent_by (filter (λ act. link_of act == (port_of_link s node index).link) e.acts)) x
    → let t = stepped s k e in TakesItsTime p k.time x (port_of_link t node index) t.pending)

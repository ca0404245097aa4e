use Rattle.std.proofs.Common.{◌≡◌, Some, None, Option, sym, ap}
use Rattle.std.specs.List.{slice_get}
use Rattle.std.specs.Option.{option_map}
use Rattle.sim_time.specs.declared.key.Key.{Key}
use Rattle.packet_chain.specs.Stamped.{Stamped}
use Rattle.tournament.specs.Keyed.{next_key}
use Rattle.tournament.specs.Timed.{time_of}
use Rattle.node_core.specs.declared.event.Event.{Event}
use Rattle.node_core.specs.WireState.{WireState, IsWire, pending_on}
use Rattle.node_core.proofs.Wires.{wire, front_least}
use Rattle.node_core.proofs.wire.Wire.next_time.Goals as goal

-- when what is in front arrives
arrives : (w now : WireState) → w ≡ now → IsWire w → (front : Option Stamped) → front ≡ slice_get w.under_way 0 → option_map (λ (a : Stamped). a.1) front ≡ time_of (next_key (pending_on now))
arrives w now same is None e = ap (λ (o : Option (Key × Event)). time_of (option_map (λ (entry : Key × Event). entry.0) o)) (sym (front_least w now same is None e))
arrives w now same is (Some a) e = ap (λ (o : Option (Key × Event)). time_of (option_map (λ (entry : Key × Event). entry.0) o)) (sym (front_least w now same is (Some a) e))

pub returns-in-Some : goal.returns-in-Some
returns-in-Some c =
    arrives (wire c.self.inside.node c.self.inside.link c.self.inside.taken c.self.inside.under_way) c.args.self.now c.self.view_is c.self.invariant (Some (c.in-Some.field-0-0, c.in-Some.time)) c.in-Some.ensures

pub returns-in-None : goal.returns-in-None
returns-in-None c =
    arrives (wire c.self.inside.node c.self.inside.link c.self.inside.taken c.self.inside.under_way) c.args.self.now c.self.view_is c.self.invariant None c.in-None.ensures

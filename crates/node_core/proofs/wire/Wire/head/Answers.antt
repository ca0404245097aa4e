use Rattle.std.proofs.Common.{◌≡◌, ◌+◌, Some, None, Option, sym, ap, ◌∙◌}
use Rattle.std.specs.List.{slice_get}
use Rattle.std.specs.Option.{option_map}
use Rattle.sim_time.specs.declared.key.Key.{Key}
use Rattle.packet_chain.specs.Stamped.{Stamped}
use Rattle.tournament.specs.Keyed.{least}
use Rattle.node_core.specs.declared.event.Event.{Event}
use Rattle.node_core.specs.declared.event.Event.TheVariants.{Arrive}
use Rattle.node_core.specs.Timers.{arrival_key}
use Rattle.node_core.specs.WireState.{WireState, IsWire, arrivals_on, pending_on}
use Rattle.node_core.proofs.Wires.{wire, head_on, least_on}
use Rattle.node_core.proofs.wire.Wire.head.Goals as goal

-- the arrival of what is in front
abbrev arrival : WireState → Option Stamped → Option (Key × Event)
arrival w front = option_map (λ (a : Stamped). (arrival_key w.node w.link a.1 (w.taken + 1), Arrive a.0)) front

as_first : (w now : WireState) → w ≡ now → (front : Option Stamped) → front ≡ slice_get w.under_way 0 → arrival w front ≡ slice_get (arrivals_on now) 0
as_first w now same front e = ap (arrival w) e ∙ head_on w ∙ ap (λ (s : WireState). slice_get (arrivals_on s) 0) same

as_least : (w now : WireState) → w ≡ now → IsWire w → (front : Option Stamped) → front ≡ slice_get w.under_way 0 → arrival w front ≡ least (pending_on now)
as_least w now same is front e = ap (arrival w) e ∙ head_on w ∙ sym (least_on w is) ∙ ap (λ (s : WireState). least (pending_on s)) same

pub returns-in_err-packet-clause-first : goal.returns-in_err-packet-clause-first
returns-in_err-packet-clause-first c =
    c.from_residual.ensures ∙ as_first (wire c.self.inside.node c.self.inside.link c.self.inside.taken c.self.inside.under_way) c.args.self.now c.self.view_is None c.in_err-packet.ensures

pub returns-in_err-packet-clause-least : goal.returns-in_err-packet-clause-least
returns-in_err-packet-clause-least c =
    c.from_residual.ensures ∙ as_least (wire c.self.inside.node c.self.inside.link c.self.inside.taken c.self.inside.under_way) c.args.self.now c.self.view_is c.self.invariant None c.in_err-packet.ensures

pub returns-clause-first : goal.returns-clause-first
returns-clause-first c =
    as_first (wire c.self.inside.node c.self.inside.link c.self.inside.taken c.self.inside.under_way) c.args.self.now c.self.view_is (Some (c.in_ok-packet.packet, c.in_ok-packet.time)) c.in_ok-packet.ensures

pub returns-clause-least : goal.returns-clause-least
returns-clause-least c =
    as_least (wire c.self.inside.node c.self.inside.link c.self.inside.taken c.self.inside.under_way) c.args.self.now c.self.view_is c.self.invariant (Some (c.in_ok-packet.packet, c.in_ok-packet.time)) c.in_ok-packet.ensures

use Rattle.std.proofs.Common.{sym, ap, ◌∙◌, Option, arith}
use Rattle.std.specs.Option.{option_map}
use Rattle.sim_time.specs.declared.key.Key.{Key}
use Rattle.node_core.specs.declared.event.Event.{Event}
use Rattle.table_run.specs.State.{below, due}
use Rattle.net_machine.specs.Due.{due_of}
use Rattle.net_machine.specs.Run.{Reached}
use Rattle.net_machine.proofs.AtNodes.{net_none}
use Rattle.net_machine.proofs.InPlace.{placed_in_place}
use Rattle.net_machine.proofs.Led.{led_due, led_late}
use Rattle.net_machine.proofs.net.Net.next_due.Goals as goal

pub first-requires : goal.first-requires
first-requires c = record { in_place = placed_in_place c.self.inside.nodes c.self.invariant.placed }

pub returns-in_err-place : goal.returns-in_err-place
returns-in_err-place c =
    let n = c.self.inside in
    c.from_residual.ensures
    ∙ sym (ap (λ (first : Option (Key × Event)). option_map due_of (below n.end first)) (net_none n.nodes c.self.invariant.placed c.in_err-place.ensures))
    ∙ ap (λ (r : Reached). option_map due_of (due r.state)) c.self.view_is

pub returns-then-time-self : goal.returns-then-time-self
returns-then-time-self c =
    let n = c.self.inside in
    sym (ap (option_map due_of) (led_late n.nodes c.self.invariant.placed c.in_ok-place.place c.in_ok-place.time c.in_ok-place.ensures n.end (omega (arith, c.if-time-self.true))))
    ∙ ap (λ (r : Reached). option_map due_of (due r.state)) c.self.view_is

pub returns : goal.returns
returns c =
    let n = c.self.inside in
    led_due n.nodes c.self.invariant.placed c.in_ok-place.place c.in_ok-place.time c.in_ok-place.ensures n.end (omega (arith, c.if-time-self.false))
    ∙ ap (λ (r : Reached). option_map due_of (due r.state)) c.self.view_is

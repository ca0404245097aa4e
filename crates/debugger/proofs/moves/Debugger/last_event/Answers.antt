use Rattle.std.proofs.Common.{◌<◌, IfOk, sym, subst, arith}
use Rattle.debugger.specs.Moves.{HasPosition}
use Rattle.debugger.specs.LastEvents.{IsLastEvent}
use Rattle.debugger.specs.Debugging.{Debugging}
use Rattle.debugger.proofs.Kept.{value_kept, moves_kept, nodes_kept, near_passes}
use Rattle.debugger.proofs.moves.Debugger.last_event.Goals as goal

pub event_at-requires-clause-on_run : goal.event_at-requires-clause-on_run
event_at-requires-clause-on_run c = near_passes c.self.inside c.nearer-near.result.now c.self.invariant c.nearer-near.ensures

pub event_at-requires-clause-some : goal.event_at-requires-clause-some
event_at-requires-clause-some c = omega (arith, c.position-position.ensures.count, subst (λ (d : Debugging). 0 < d.shown.position) (sym c.self.view_is) c.requires)

pub event_at-requires-clause-position : goal.event_at-requires-clause-position
event_at-requires-clause-position c = subst (HasPosition c.self.inside.checkpoints) (sym c.position-position.ensures.count) (c.self.inside.net.state, c.self.invariant.moves.shown)

pub overflow_sub-position : goal.overflow_sub-position
overflow_sub-position c = omega (arith, c.position-position.ensures.count, subst (λ (d : Debugging). 0 < d.shown.position) (sym c.self.view_is) c.requires)

pub invariant_of-self : goal.invariant_of-self
invariant_of-self c =
    record { moves = moves_kept c.self.inside _ c.event_at.ensures.same c.self.invariant; nodes = nodes_kept c.self.inside _ c.event_at.ensures.same c.self.invariant }

pub returns-clause-ok : goal.returns-clause-ok
returns-clause-ok c =
    let here = subst (λ p. IfOk c.event_at.result (IsLastEvent c.self.inside.checkpoints c.self.inside.breaks p)) c.position-position.ensures.count c.event_at.ensures.ok in
    subst (λ (d : Debugging). IfOk c.event_at.result (IsLastEvent d.start d.breaks d.shown.position)) c.self.view_is here

pub returns-clause-same : goal.returns-clause-same
returns-clause-same c = value_kept c.self.inside _ c.event_at.ensures.same _ c.self.view_is

use Rattle.std.proofs.Common.{◌+◌, ◌<◌, ◌≤◌, ◌^◌, List, length, sym, ap, subst, ◌∙◌}
use Rattle.std.specs.Prelude.{All}
use Rattle.tournament.specs.Keyed.{apply, entering, EachKey}
use Rattle.packet_chain.specs.Stamped.{Stamped}
use Rattle.node_core.specs.WireState.{WireState, IsWire, arrivals, pending_on, came_over, stamps_of}
use Rattle.node_core.proofs.Wires.{wire, Appended, appended}
use Rattle.node_group.proofs.held.HeldPackets.hold.Goals as goal

abbrev whole : goal.After-append → WireState
whole c = wire c.self.inside.node c.self.inside.link c.self.inside.before c.self.inside.packets

joined : (c : goal.After-append) → Appended (whole c) c.args.sent.now
joined c = appended (whole c) c.args.sent.now c.self.invariant c.requires.rising
    (subst (λ (w : WireState). All (λ stamp. EachKey (λ k. k.time < stamp) (pending_on w)) (stamps_of c.args.sent.now)) (sym c.self.view_is) c.requires.later)
    (subst (λ (w : WireState). came_over w + length c.args.sent.now ≤ 2 ^ 50) (sym c.self.view_is) c.requires.few)

pub invariant_of-self : goal.invariant_of-self
invariant_of-self c =
    subst (λ (q : List Stamped). IsWire (wire c.self.inside.node c.self.inside.link c.self.inside.before q)) (sym c.append.ensures.cells) (joined c).is_wire

pub returns-clause-pending : goal.returns-clause-pending
returns-clause-pending c =
    ap (λ (q : List Stamped). pending_on (wire c.self.inside.node c.self.inside.link c.self.inside.before q)) c.append.ensures.cells
    ∙ (joined c).entered
    ∙ ap (λ (w : WireState). apply (entering (arrivals w.node w.link (came_over w) c.args.sent.now)) (pending_on w)) c.self.view_is

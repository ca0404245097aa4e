use Rattle.std.proofs.Common.{◌≡◌, ◌∷◌, List, sym, ap, subst, ◌∙◌}
use Rattle.std.specs.FinMap as map
use Rattle.packet_chain.specs.Stamped.{Stamped}
use Rattle.std.specs.List.{slice_get}
use Rattle.std.specs.Option.{option_map}
use Rattle.tournament.specs.Keyed.{least, next_key}
use Rattle.node_core.specs.WireState.{WireState, IsWire, pending_on}
use Rattle.node_core.proofs.Wires.{wire, wire_popped, pending_popped, none_next, first_packet}
use Rattle.node_core.proofs.wire.Wire.pop.Goals as goal

pub returns-in_err-cell-clause-pending : goal.returns-in_err-cell-clause-pending
returns-in_err-cell-clause-pending c = λ key next.
    let w = c.self.inside in
    absurd (none_next w.node w.link w.taken key
    (ap (λ (q : List Stamped). next_key (pending_on (wire w.node w.link w.taken q))) (sym c.in_err-cell.ensures.0) ∙ ap (λ (s : WireState). next_key (pending_on s)) c.self.view_is ∙ next))

pub invariant_of-self-2 : goal.invariant_of-self-2
invariant_of-self-2 c =
    let w = c.self.inside in
    wire_popped w.node w.link w.taken c.in_ok-cell.cell c.pop_front.new.self
    (subst (λ (q : List Stamped). IsWire (wire w.node w.link w.taken q)) c.in_ok-cell.ensures c.self.invariant)

pub returns-clause-pending : goal.returns-clause-pending
returns-clause-pending c = λ key next.
    let w = c.self.inside in
    let full = c.in_ok-cell.cell ∷ c.pop_front.new.self in
    let same : wire w.node w.link w.taken full ≡ c.args.self.now = ap (wire w.node w.link w.taken) (sym c.in_ok-cell.ensures) ∙ c.self.view_is in
    pending_popped w.node w.link w.taken c.in_ok-cell.cell c.pop_front.new.self
    (subst (λ (q : List Stamped). IsWire (wire w.node w.link w.taken q)) c.in_ok-cell.ensures c.self.invariant) key
    (ap (λ (s : WireState). next_key (pending_on s)) same ∙ next)
    ∙ ap (λ (s : WireState). map.remove (pending_on s) key) same

pub returns-in_err-cell-clause-packet : goal.returns-in_err-cell-clause-packet
returns-in_err-cell-clause-packet c = λ key packet first.
    let w = c.self.inside in
    ap (option_map (λ (a : Stamped). a.0)) (c.from_residual.ensures ∙ ap (λ (q : List Stamped). slice_get q 0) (sym c.in_err-cell.ensures.0))
    ∙ first_packet (wire w.node w.link w.taken w.under_way) c.self.invariant key packet (ap (λ (s : WireState). least (pending_on s)) c.self.view_is ∙ first)

pub returns-clause-packet : goal.returns-clause-packet
returns-clause-packet c = λ key packet first.
    let w = c.self.inside in
    ap (λ (q : List Stamped). option_map (λ (a : Stamped). a.0) (slice_get q 0)) (sym c.in_ok-cell.ensures)
    ∙ first_packet (wire w.node w.link w.taken w.under_way) c.self.invariant key packet (ap (λ (s : WireState). least (pending_on s)) c.self.view_is ∙ first)

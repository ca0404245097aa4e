use Rattle.std.proofs.Common.{◌≡◌, ◌++◌, length, ap, sym, subst, ◌∙◌, arith, length-append, append-nil}
use Rattle.packet_chain.specs.Stamped.{Stamped}
use Rattle.port.specs.Laws.{NothingWaitsWhereIdle}
use Rattle.port.specs.Port.{PortState, departed, offered_one}
use Rattle.port.proofs.StepLaws.{one_counts, one_keeps_nothing, one_leaves_idle, one_does_few}
use Rattle.port.proofs.port.Port.send.Goals as goal

pub returns-clause-few : goal.returns-clause-few
returns-clause-few c =
    let step = offered_one c.args.now c.args.self.now c.args.cell.0 in
    let most = one_does_few c.args.now c.args.self.now c.args.cell.0 in
    omega (arith, most, c.offer.ensures.places, ap length c.offer.ensures.acts, length-append c.args.acts.now.acts step.acts)

pub returns-clause-counted : goal.returns-clause-counted
returns-clause-counted c = ap (λ (p : PortState). p.offered) c.offer.ensures.state ∙ (one_counts c.args.now c.args.self.now c.args.cell.0).offered

pub returns-clause-idle_still : goal.returns-clause-idle_still
returns-clause-idle_still c = λ idle.
    let still = one_leaves_idle c.args.now c.args.self.now c.args.cell.0 (sym (ap (λ (p : PortState). p.next_free) c.offer.ensures.state) ∙ idle) in
    (still.idle, ap (λ (p : PortState). p.sent) c.offer.ensures.state ∙ still.same, c.offer.ensures.departed ∙ ap (λ d. c.args.out.now ++ departed d) still.none_departs ∙ append-nil c.args.out.now)

pub returns-clause-caught_up : goal.returns-clause-caught_up
returns-clause-caught_up c = λ nothing. subst NothingWaitsWhereIdle (sym c.offer.ensures.state) (one_keeps_nothing c.args.now c.args.self.now c.args.cell.0 nothing)

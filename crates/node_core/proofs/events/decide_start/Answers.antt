use Rattle.std.proofs.Common.{false, sym, ap, subst}
use Rattle.reno_sender.specs.PlanView.{planned_of}
use Rattle.node_core.specs.declared.event.Event.TheVariants.{Start}
use Rattle.node_core.specs.declared.role.Role.{Role}
use Rattle.node_core.specs.declared.role.Role.TheVariants.{Sends}
use Rattle.node_core.specs.Decided.{IsDecided}
use Rattle.node_core.specs.InStep.{HasItsLink}
use Rattle.node_core.specs.Row.{sender_row}
use Rattle.node_core.specs.Running.{part}
use Rattle.node_core.proofs.Decisions.{both_ok, sender_decides}
use Rattle.node_core.proofs.events.decide_start.Goals as goal

pub returns-in-Sends-clause-decided : goal.returns-in-Sends-clause-decided
returns-in-Sends-clause-decided c =
    λ flow links linked.
    let own = c.in-Sends.flow in
    let fields = c.in-Sends.sender in
    let new = c.send_plan.new.sender in
    let room = c.send_plan.new.acts.room in
    let has : HasItsLink (Sends own fields) links = subst (λ (r : Role). HasItsLink r links) c.in-Sends.is linked in
    both_ok c.send_plan.result c.send_plan.ensures.sends c.send_plan.ensures.sender (λ d sends new_is.
    subst (λ (r : Role). IsDecided r (Sends own new) links c.args.key (Start flow) room d) (sym c.in-Sends.is)
    (sender_decides own fields new (planned_of c.start-plan.result) false links c.args.key (Start flow) room d sends new_is has tt (λ e. absurd (cc))
    (ap (sender_row (part (Sends own fields) links) c.args.key own fields) (sym c.start-plan.ensures.planned))))

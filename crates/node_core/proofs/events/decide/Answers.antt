use Rattle.std.proofs.Common.{subst, sym}
use Rattle.node_core.specs.declared.decision.Decision.TheVariants.{TakeNext}
use Rattle.node_core.specs.declared.event.Event.{Event}
use Rattle.node_core.specs.Decided.{IsDecided}
use Rattle.node_core.proofs.events.decide.Goals as goal

pub returns-in_ok-free_link-in-Free-clause-decided : goal.returns-in_ok-free_link-in-Free-clause-decided
returns-in_ok-free_link-in-Free-clause-decided c =
    subst (λ (e : Event). IsDecided c.args.role.now c.args.role.now c.args.links.now.items c.args.line.now.key e c.free_link.new.acts.room (TakeNext c.in_ok-free_link-in-Free.field-0)) (sym c.in-Free.is)
    (c.in_ok-free_link-in-Free.ensures.decided c.args.role.now c.in-Free.field-0)

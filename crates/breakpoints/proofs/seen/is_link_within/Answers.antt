use Rattle.std.proofs.Common.{sym, ap, subst, ◌∙◌, true≢false}
use Rattle.std.specs.Prelude.{◌↔◌, IsTrue}
use Rattle.node_core.specs.TraceLine.{shown}
use Rattle.breakpoints.specs.declared.seen.SeenLink.{SeenLink}
use Rattle.breakpoints.specs.declared.seen.Sought.TheVariants.{Link}
use Rattle.breakpoints.specs.declared.values.Reading.{Reading}
use Rattle.breakpoints.specs.Values.{HoldsOf, number_or_nothing}
use Rattle.breakpoints.proofs.Elsewhere.{node_same}
use Rattle.breakpoints.proofs.seen.is_link_within.Goals as goal

pub returns-then-changes_link : goal.returns-then-changes_link
returns-then-changes_link c = λ before is stepped was.
    let there = ap (λ (w : SeenLink). w.node) was ∙ node_same before c.args.net.now (shown c.args.line.now) (Link c.args.asked.of) is stepped in
    let holds = subst (λ (v : Reading). IsTrue c.holds_of.result ↔ HoldsOf v c.args.asked.test) (c.number_or_nothing.ensures ∙ ap number_or_nothing (c.link_value_at-is.ensures there)) c.holds_of.ensures in
    (λ t. ((c.changes_link.ensures before is stepped was).0 c.if-changes_link.true, holds.0 t), λ h. holds.1 h.1)

pub returns-else-changes_link : goal.returns-else-changes_link
returns-else-changes_link c = λ before is stepped was. (λ t. absurd (true≢false (sym t)), λ h. absurd (true≢false (sym ((c.changes_link.ensures before is stepped was).1 h.0) ∙ c.if-changes_link.false)))

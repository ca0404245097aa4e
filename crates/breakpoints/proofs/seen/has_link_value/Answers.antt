use Rattle.std.proofs.Common.{sym, ap, subst, ◌∙◌, Option}
use Rattle.std.specs.Prelude.{◌↔◌, IsTrue, IfSome}
use Rattle.node_core.specs.TraceLine.{shown}
use Rattle.breakpoints.specs.declared.values.Asked.{Asked}
use Rattle.breakpoints.specs.Seen.{HoldsOfLink, seen_link}
use Rattle.breakpoints.proofs.seen.has_link_value.Goals as goal

pub returns-in-Some : goal.returns-in-Some
returns-in-Some c = λ before is stepped was.
    let here = c.is_link_within.ensures before is stepped (was ∙ ap (seen_link before.state) c.in-Some.is) in
    subst (λ (o : Option Asked). IsTrue c.is_link_within.result ↔ IfSome o (HoldsOfLink c.args.value before.state (shown c.args.line.now) c.args.net.now.state)) (sym c.in-Some.is) here

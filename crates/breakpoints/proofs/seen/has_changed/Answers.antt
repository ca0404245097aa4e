use Rattle.std.proofs.Common.{sym, ap, subst, ◌∙◌, Option}
use Rattle.std.specs.Prelude.{◌↔◌, IsTrue, IfSome}
use Rattle.breakpoints.specs.declared.values.ValueOf.{ValueOf}
use Rattle.breakpoints.specs.Seen.{Becomes, seen_value}
use Rattle.breakpoints.proofs.seen.has_changed.Goals as goal

pub returns-in-Some : goal.returns-in-Some
returns-in-Some c = λ before is stepped was.
    let here = c.becomes.ensures before is stepped (was ∙ ap (seen_value before.state) c.in-Some.is) in
    subst (λ (o : Option ValueOf). IsTrue c.becomes.result ↔ IfSome o (Becomes before.state c.args.net.now.state)) (sym c.in-Some.is) here

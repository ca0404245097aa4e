use Rattle.std.proofs.Common.{sym, subst, IfOk}
use Rattle.std.specs.Prelude.{◌↔◌, IsTrue, IfSome}
use Rattle.breakpoints.specs.Breaks.{Stalls}
use Rattle.breakpoints.proofs.breaks.stalls_as_asked.Goals as goal

pub returns-in-Some : goal.returns-in-Some
returns-in-Some c = λ before is stepped.
    subst (λ o. IfOk c.stalls.result (λ found. IsTrue found ↔ IfSome o (λ flow. Stalls flow before.state c.args.net.now.state))) (sym c.in-Some.is) (c.stalls.ensures before is stepped)

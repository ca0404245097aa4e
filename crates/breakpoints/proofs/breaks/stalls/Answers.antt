use Rattle.std.proofs.Common.{◌≡◌, ◌∙◌, true, sym, subst, IfOk}
use Rattle.std.proofs.lemmas.Result.{IfOk-weaker}
use Rattle.flow_waits.specs.Stalled.{becomes_stalled}
use Rattle.std.specs.Prelude.{◌↔◌, IsTrue}
use Rattle.breakpoints.specs.declared.breaks.StallOf.{StallOf}
use Rattle.breakpoints.specs.Breaks.{Stalls}
use Rattle.breakpoints.proofs.breaks.stalls.Goals as goal

pub returns-in-Any : goal.returns-in-Any
returns-in-Any c = λ before is stepped.
    subst (λ (flow : StallOf). IfOk c.some_stalls.result (λ found. IsTrue found ↔ Stalls flow before.state c.args.net.now.state)) (sym c.in-Any.is) (c.some_stalls.ensures before is stepped)

pub returns-in-Flow : goal.returns-in-Flow
returns-in-Flow c = λ before is stepped.
    let after = c.args.net.now.state in
    let number = c.in-Flow.number in
    subst (λ (flow : StallOf). IfOk c.one_stalls.result (λ found. IsTrue found ↔ Stalls flow before.state after)) (sym c.in-Flow.is)
    (IfOk-weaker c.one_stalls.result (λ found. found ≡ becomes_stalled number before.state after) (λ found. IsTrue found ↔ (becomes_stalled number before.state after ≡ true)) (λ found e. (λ t. sym e ∙ t, λ one. e ∙ one)) (c.one_stalls.ensures before is stepped))

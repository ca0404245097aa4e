use Rattle.std.proofs.Common.{sym, ◌∙◌, true≢false}
use Rattle.std.specs.Prelude.{◌↔◌, IsTrue, IfSome}
use Rattle.std.proofs.lemmas.Result.{IfOk-weaker}
use Rattle.node_core.specs.TraceLine.{shown}
use Rattle.breakpoints.specs.Breaks.{MeetsLine, Stalls, Matches}
use Rattle.breakpoints.proofs.breaks.Break.matches.Goals as goal

pub returns-then-meets_after : goal.returns-then-meets_after
returns-then-meets_after c = λ before is stepped was.
    let self = c.args.self.now in
    let line = shown c.args.line.now in
    let after = c.args.net.now.state in
    let more = (c.meets_after.ensures before is stepped was).0 c.if-meets_after.true in
    IfOk-weaker c.meets_shown.result (λ found. IsTrue found ↔ (MeetsLine self line × IfSome self.stall (λ flow. Stalls flow before.state after))) (λ found. IsTrue found ↔ Matches self before.state line after)
    (λ found e. (λ t. record { meets = (e.0 t).0; kept = more.0; states = more.1; stalls = (e.0 t).1 }, λ matched. e.1 (matched.meets, matched.stalls))) (c.meets_shown.ensures before is stepped)

pub returns-else-meets_after : goal.returns-else-meets_after
returns-else-meets_after c = λ before is stepped was. (λ t. absurd (true≢false (sym t)), λ matched. absurd (true≢false (sym ((c.meets_after.ensures before is stepped was).1 (matched.kept, matched.states)) ∙ c.if-meets_after.false)))

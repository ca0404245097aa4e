use Rattle.std.proofs.Common.{sym, ◌∙◌, true≢false}
use Rattle.std.specs.Prelude.{◌↔◌, IsTrue, IfSome}
use Rattle.std.proofs.lemmas.Result.{IfOk-weaker}
use Rattle.node_core.specs.TraceLine.{shown}
use Rattle.breakpoints.specs.Breaks.{MeetsLine, Stalls}
use Rattle.breakpoints.proofs.breaks.Break.meets_shown.Goals as goal

pub returns-then-meets_line : goal.returns-then-meets_line
returns-then-meets_line c = λ before is stepped.
    let self = c.args.self.now in
    let line = shown c.args.line.now in
    let after = c.args.net.now.state in
    IfOk-weaker c.stalls_as_asked.result (λ found. IsTrue found ↔ IfSome self.stall (λ flow. Stalls flow before.state after)) (λ found. IsTrue found ↔ (MeetsLine self line × IfSome self.stall (λ flow. Stalls flow before.state after)))
    (λ found e. (λ t. (c.meets_line.ensures.0 c.if-meets_line.true, e.0 t), λ all. e.1 all.1)) (c.stalls_as_asked.ensures before is stepped)

pub returns-else-meets_line : goal.returns-else-meets_line
returns-else-meets_line c = λ before is stepped. (λ t. absurd (true≢false (sym t)), λ all. absurd (true≢false (sym (c.meets_line.ensures.1 all.0) ∙ c.if-meets_line.false)))

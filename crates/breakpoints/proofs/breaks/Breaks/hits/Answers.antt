use Rattle.std.proofs.lemmas.Result.{IfOk-at_ok}
use Rattle.node_core.specs.TraceLine.{shown}
use Rattle.breakpoints.specs.Breaks.{IsFirstHit}
use Rattle.breakpoints.proofs.First.{is_hit}
use Rattle.breakpoints.proofs.breaks.Breaks.hits.Goals as goal

pub returns-in-Ok : goal.returns-in-Ok
returns-in-Ok c = λ before is stepped are.
    let breaks = c.args.self.now in
    let line = shown c.args.line.now in
    let after = c.args.net.now.state in
    is_hit breaks before.state line after c.in-Ok.hit c.is_some.result c.is_some.ensures (IfOk-at_ok (IsFirstHit breaks before.state line after) c.in-Ok.is (c.first_hit.ensures before is stepped are))

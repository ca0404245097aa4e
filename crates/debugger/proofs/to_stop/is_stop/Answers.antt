use Rattle.std.proofs.Common.{◌∙◌, sym, true≢false}
use Rattle.std.specs.Prelude.{IsTrue, IsNone}
use Rattle.node_core.specs.TraceLine.{shown}
use Rattle.breakpoints.specs.declared.breaks.Break.{Break}
use Rattle.breakpoints.specs.Breaks.{Matches, IsHit, IsMayHit}
use Rattle.debugger.proofs.Passing.{none_becomes_stalled, asks_none}
use Rattle.debugger.proofs.to_stop.is_stop.Goals as goal

pub hits-requires : goal.hits-requires
hits-requires c = c.requires

pub returns-then-may_hit : goal.returns-then-may_hit
returns-then-may_hit c = λ before is stepped counted are. c.hits.ensures before is stepped are

pub returns-else-may_hit : goal.returns-else-may_hit
returns-else-may_hit c = λ before is stepped counted are.
    let line = shown c.args.line.now in
    let after = c.args.net.now.state in
    let not_asked : (b : Break) → Matches b before.state line after → IsTrue c.leaves_moving-quiet.result → IsNone b.stall = λ b hit quiet.
    asks_none before.state after b.stall (none_becomes_stalled before c.args.net.now line is stepped c.args.counts.now counted (sym c.leaves_moving-quiet.ensures ∙ quiet)) hit.stalls in
    let may : IsHit c.args.breaks.now before.state line after → IsMayHit c.args.breaks.now c.leaves_moving-quiet.result line = λ hit. (hit.0, hit.1, hit.2, hit.3, (not_asked hit.1 hit.4, hit.4.meets)) in
    (λ t. absurd (true≢false (sym t)), λ hit. absurd (true≢false (sym (c.may_hit.ensures.1 (may hit)) ∙ c.if-may_hit.false)))

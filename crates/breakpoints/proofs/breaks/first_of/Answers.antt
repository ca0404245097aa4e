use Rattle.std.proofs.Common.{◌≡◌, ◌<◌, ◌≤◌, get_or, ⊎_elim, sym, subst, arith}
use Rattle.std.proofs.lemmas.Bool.{cases_lt}
use Rattle.node_core.specs.TraceLine.{shown}
use Rattle.breakpoints.specs.declared.breaks.Break.{Break}
use Rattle.breakpoints.specs.Breaks.{Matches}
use Rattle.breakpoints.proofs.Judged.{was_found, was_not}
use Rattle.breakpoints.proofs.First.{hits_first, hits_none}
use Rattle.breakpoints.proofs.States.{seen_at}
use Rattle.breakpoints.proofs.breaks.first_of.Goals as goal

pub returns-in-Ok-true : goal.returns-in-Ok-true
returns-in-Ok-true c = λ before is stepped are.
    let was = seen_at c.args.breaks.now before.state c.loop-index.index c.break_at-breakpoint.result.now c.loop-index-test.true (c.break_at-breakpoint.ensures c.break_at-breakpoint.result.now) c.args.seen.now c.seen_at-was.result.now are c.seen_at-was.ensures in
    let after = c.args.net.now.state in
    let matched = was_found (Matches c.break_at-breakpoint.result.now before.state (shown c.args.line.now) after) c.matches.result c.in-Ok-true.field-0 c.in-Ok-true.is c.in-Ok-true.field-0-test (c.matches.ensures before is stepped was) in
    hits_first c.args.breaks.now before.state (shown c.args.line.now) after c.loop-index.index c.break_at-breakpoint.result.now c.seen_at-was.result.now c.loop-index-test.true (sym (c.break_at-breakpoint.ensures c.break_at-breakpoint.result.now)) was (c.loop-index.invariant before is stepped are) matched

pub loop-index-preserved : goal.loop-index-preserved
loop-index-preserved c = λ before is stepped are k d under hit.
    let was = seen_at c.args.breaks.now before.state c.loop-index.index c.break_at-breakpoint.result.now c.loop-index-test.true (c.break_at-breakpoint.ensures c.break_at-breakpoint.result.now) c.args.seen.now c.seen_at-was.result.now are c.seen_at-was.ensures in
    let after = c.args.net.now.state in
    ⊎_elim
    (λ (earlier : k < c.loop-index.index). c.loop-index.invariant before is stepped are k d earlier hit)
    (λ (from : c.loop-index.index ≤ k).
    let here : k ≡ c.loop-index.index = omega (arith, from, under) in
    let there = subst (λ (b : Break). Matches b before.state (shown c.args.line.now) after) (c.break_at-breakpoint.ensures d) (subst (λ j. Matches (get_or c.args.breaks.now j d) before.state (shown c.args.line.now) after) here hit) in
    was_not (Matches c.break_at-breakpoint.result.now before.state (shown c.args.line.now) after) c.matches.result c.in-Ok-false.field-0 c.in-Ok-false.is c.in-Ok-false.field-0-test (c.matches.ensures before is stepped was) there)
    (cases_lt k c.loop-index.index)

pub returns : goal.returns
returns c = λ before is stepped are. hits_none c.args.breaks.now before.state (shown c.args.line.now) c.args.net.now.state c.loop-index.index (omega (arith, c.loop-index-test.false)) (c.loop-index.invariant before is stepped are)

use Rattle.std.proofs.Common.{◌≡◌, ◌<◌, ◌≤◌, sym, ap, subst, ◌∙◌, arith, ⊎_elim, true≢false}
use Rattle.std.proofs.lemmas.Bool.{cases_lt}
use Rattle.window_core.specs.Merged.{line_in}
use Rattle.debugger.specs.Aims.{IsMet}
use Rattle.debugger.proofs.aim.Aim.first_in.Goals as goal

pub loop-index-preserved : goal.loop-index-preserved
loop-index-preserved c = λ j under hit.
    ⊎_elim
    (λ (before : j < c.loop-index.index). c.loop-index.invariant j before hit)
    (λ (from : c.loop-index.index ≤ j).
    let here : j ≡ c.loop-index.index = omega (arith, from, under) in
    let there = subst (IsMet c.args.self.now) (ap (line_in c.args.batch.now.lines) here ∙ sym c.line.ensures) hit in
    true≢false (sym (c.is_met.ensures.1 there) ∙ c.if-is_met.false))
    (cases_lt j c.loop-index.index)

pub returns : goal.returns
returns c = λ j under. c.loop-index.invariant j (omega (arith, under, c.loop-index-test.false, c.len-index-end.ensures))

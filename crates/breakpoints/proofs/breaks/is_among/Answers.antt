use Rattle.std.proofs.Common.{◌≡◌, ◌<◌, ◌≤◌, ◌∙◌, get_or, ⊎_elim, sym, subst, arith, true≢false}
use Rattle.std.proofs.lemmas.Bool.{cases_lt}
use Rattle.breakpoints.proofs.breaks.is_among.Goals as goal

pub returns-then-is_same : goal.returns-then-is_same
returns-then-is_same c = (c.loop-index.index, c.loop-index-test.true, c.break_at-other.ensures c.args.b ∙ c.is_same.ensures.0 c.if-is_same.true)

pub loop-index-preserved : goal.loop-index-preserved
loop-index-preserved c = λ k d under is.
    ⊎_elim
    (λ (before : k < c.loop-index.index). c.loop-index.invariant k d before is)
    (λ (from : c.loop-index.index ≤ k).
    let here : k ≡ c.loop-index.index = omega (arith, from, under) in
    let there : get_or c.args.breaks.now c.loop-index.index d ≡ c.args.b = subst (λ j. get_or c.args.breaks.now j d ≡ c.args.b) here is in
    true≢false (sym (c.is_same.ensures.1 (sym (c.break_at-other.ensures d) ∙ there)) ∙ c.if-is_same.false))
    (cases_lt k c.loop-index.index)

pub returns : goal.returns
returns c = λ has. c.loop-index.invariant has.0 c.args.b (omega (arith, has.1, c.loop-index-test.false)) has.2

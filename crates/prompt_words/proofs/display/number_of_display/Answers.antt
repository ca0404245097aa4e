use Rattle.std.proofs.Common.{◌≡◌, ◌<◌, ◌≤◌, ◌∙◌, get_or, ⊎_elim, sym, subst, arith, true≢false}
use Rattle.std.proofs.lemmas.Bool.{cases_lt}
use Rattle.prompt_words.proofs.Listed.{first_number}
use Rattle.prompt_words.proofs.display.number_of_display.Goals as goal

pub returns-then-is_same_item : goal.returns-then-is_same_item
returns-then-is_same_item c = first_number c.args.displays.now c.args.item c.loop-index.index c.loop-index-test.true c.loop-index.invariant (c.item_at-other.ensures c.args.item ∙ c.is_same_item.ensures.0 c.if-is_same_item.true)

pub loop-index-preserved : goal.loop-index-preserved
loop-index-preserved c = λ k d under is.
    ⊎_elim
    (λ (before : k < c.loop-index.index). c.loop-index.invariant k d before is)
    (λ (from : c.loop-index.index ≤ k).
    let here : k ≡ c.loop-index.index = omega (arith, from, under) in
    let there : get_or c.args.displays.now c.loop-index.index d ≡ c.args.item = subst (λ j. get_or c.args.displays.now j d ≡ c.args.item) here is in
    true≢false (sym (c.is_same_item.ensures.1 (sym (c.item_at-other.ensures d) ∙ there)) ∙ c.if-is_same_item.false))
    (cases_lt k c.loop-index.index)

pub returns : goal.returns
returns c = λ has. c.loop-index.invariant has.0 c.args.item (omega (arith, has.1, c.loop-index-test.false)) has.2

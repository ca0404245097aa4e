use Rattle.std.proofs.Common.{◌∙◌, ◌+◌, List, length, inl, inr, refl, ap, arith, subst}
use Rattle.std.proofs.lemmas.Result.{MatchResult-weaker}
use Rattle.std.specs.List.{Contains}
use Rattle.prompt_words.specs.declared.display.DisplayCommand.TheVariants.{Add}
use Rattle.prompt_words.specs.declared.display.DisplayItem.{DisplayItem}
use Rattle.prompt_words.specs.Displays.{present_line}
use Rattle.prompt_words.specs.Numbered.{IsNumber}
use Rattle.debug_session.specs.Readouts.{present}
use Rattle.debug_session.proofs.Displayed.{told}
use Rattle.debug_session.proofs.displaying.set_display.Goals as goal

pub returns-in-Some : goal.returns-in-Some
returns-in-Some c =
    let said = c.say_display in
    let is = subst (λ (items : List DisplayItem). IsNumber items c.args.item c.in-Some.number) c.as_slice-set.ensures.value c.in-Some.ensures in
    told c.args.names.now (present c.args.debugger.now c.args.time) (Add c.args.item) c.args.displays.now.items said.result said.new.self (MatchResult-weaker said.result said.ensures (λ _ t. inl (c.in-Some.number, is, refl, t)) (λ _ t. t))

pub returns-then-set-ge-MOST_DISPLAYS : goal.returns-then-set-ge-MOST_DISPLAYS
returns-then-set-ge-MOST_DISPLAYS c =
    let same = ap length c.as_slice-set.ensures.value in
    (refl, (subst (λ (items : List DisplayItem). ¬ Contains items c.args.item) c.as_slice-set.ensures.value c.in-None.ensures, omega (arith, same, c.if-set-ge-MOST_DISPLAYS.true)))

pub overflow_add-number : goal.overflow_add-number
overflow_add-number c = omega (arith, c.if-set-ge-MOST_DISPLAYS.false)

pub returns-in-Ok-push : goal.returns-in-Ok-push
returns-in-Ok-push c =
    let same = ap length c.as_slice-set.ensures.value in
    inr (record {
      fresh = subst (λ (items : List DisplayItem). ¬ Contains items c.args.item) c.as_slice-set.ensures.value c.in-None.ensures;
      few = omega (arith, same, c.if-set-ge-MOST_DISPLAYS.false);
      joined = c.in-Ok-push.ensures.items;
      reported = c.in-Ok.ensures ∙ ap (λ (items : List DisplayItem). present_line c.args.names.now (present c.args.debugger.now c.args.time) (length items + 1) c.args.item) c.as_slice-set.ensures.value;
    })

pub returns-in-Err-push : goal.returns-in-Err-push
returns-in-Err-push c = (c.in-Err-push.ensures.items, tt)

pub returns-in-Err : goal.returns-in-Err
returns-in-Err c = (refl, tt)

use Rattle.std.proofs.Common.{◌∙◌, ◌+◌, ◌++◌, ◌∷◌, [], List, length, inl, inr, refl, ap, arith, subst}
use Rattle.std.proofs.lemmas.Result.{MatchResult-weaker}
use Rattle.std.specs.List.{Contains}
use Rattle.breakpoints.specs.declared.breaks.Break.{Break}
use Rattle.debugger.specs.Debugging.{Debugging}
use Rattle.prompt_words.specs.declared.command.Typed.TheVariants.{SetBreak}
use Rattle.debug_session.specs.Answers.{session_state}
use Rattle.prompt_words.specs.Numbered.{IsNumber, set_line}
use Rattle.debug_session.proofs.Deleting.{told}
use Rattle.prompt_words.proofs.Listed.{is_there}
use Rattle.debug_session.proofs.Setting.{stands}
use Rattle.debug_session.proofs.typed_reply.set_numbered.Goals as goal

pub returns-in-Some-clause-obeyed : goal.returns-in-Some-clause-obeyed
returns-in-Some-clause-obeyed c =
    let d = c.args.debugger.now in
    let b = c.args.b in
    let i = c.in-Some.number in
    let said = c.say_break in
    let is : IsNumber d.breaks b i = subst (λ bs. IsNumber bs b i) c.breaks-set.ensures.value c.in-Some.ensures in
    told c.args.naming.now (SetBreak b) d d said.result said.new.self refl (MatchResult-weaker said.result said.ensures (λ _ t. inl (i, is, record { same = refl; reported = t })) (λ _ t. (t, inl (is_there d.breaks b i is))))

pub returns-in-Some-clause-start : goal.returns-in-Some-clause-start
returns-in-Some-clause-start c = refl

pub returns-then-set-ge-MOST_BREAKS-clause-obeyed : goal.returns-then-set-ge-MOST_BREAKS-clause-obeyed
returns-then-set-ge-MOST_BREAKS-clause-obeyed c =
    let same = ap length c.breaks-set.ensures.value in
    (refl, (subst (λ (bs : List Break). ¬ Contains bs c.args.b) c.breaks-set.ensures.value c.in-None.ensures, omega (arith, same, c.breaks-set.ensures.few, c.if-set-ge-MOST_BREAKS.true)))

pub returns-then-set-ge-MOST_BREAKS-clause-start : goal.returns-then-set-ge-MOST_BREAKS-clause-start
returns-then-set-ge-MOST_BREAKS-clause-start c = refl

pub overflow_add-number : goal.overflow_add-number
overflow_add-number c = omega (arith, c.if-set-ge-MOST_BREAKS.false)

pub returns-in-Ok-add_break-clause-obeyed : goal.returns-in-Ok-add_break-clause-obeyed
returns-in-Ok-add_break-clause-obeyed c =
    let d = c.args.debugger.now in
    let e = c.in-Ok-add_break.ensures in
    let same = ap length c.breaks-set.ensures.value in
    let fresh : ¬ Contains d.breaks c.args.b = subst (λ (bs : List Break). ¬ Contains bs c.args.b) c.breaks-set.ensures.value c.in-None.ensures in
    inr (record {
      fresh = fresh;
      few = omega (arith, same, c.if-set-ge-MOST_BREAKS.false);
      joined = stands d c.add_break.new.self e.same (d.breaks ++ c.args.b ∷ []) (e.fresh fresh);
      reported = c.in-Ok.ensures ∙ ap (λ (bs : List Break). set_line c.args.naming.now (length bs + 1) c.args.b) c.breaks-set.ensures.value;
    })

pub returns-in-Ok-add_break-clause-start : goal.returns-in-Ok-add_break-clause-start
returns-in-Ok-add_break-clause-start c = ap (λ (d : Debugging). d.start) c.in-Ok-add_break.ensures.same

pub returns-in-Err-add_break-clause-obeyed : goal.returns-in-Err-add_break-clause-obeyed
returns-in-Err-add_break-clause-obeyed c =
    let same = ap length c.breaks-set.ensures.value in
    (ap session_state c.in-Err-add_break.ensures.err, inr (omega (arith, same, c.if-set-ge-MOST_BREAKS.false)))

pub returns-in-Err-add_break-clause-start : goal.returns-in-Err-add_break-clause-start
returns-in-Err-add_break-clause-start c = ap (λ (d : Debugging). d.start) c.in-Err-add_break.ensures.err

pub returns-in-Err-clause-obeyed : goal.returns-in-Err-clause-obeyed
returns-in-Err-clause-obeyed c = let same = ap length c.breaks-set.ensures.value in (refl, inr (omega (arith, same, c.if-set-ge-MOST_BREAKS.false)))

pub returns-in-Err-clause-start : goal.returns-in-Err-clause-start
returns-in-Err-clause-start c = refl

use Rattle.std.proofs.Common.{Result, Err, refl, sym, subst, ap, Some, ◌∙◌}
use Rattle.prompt_words.specs.declared.refusal.Refusal.{Refusal}
use Rattle.prompt_words.specs.Refusals.{answer_of, by_code}
use Rattle.debug_session.specs.Prompt.{MovesAgain, ObeysRequest, at_prompt}
use Rattle.debug_session.proofs.Followed.{is_again, is_obeyed, is_refused}
use Rattle.debug_session.proofs.prompt.follow_typed.Goals as goal

pub move_again-requires : goal.move_again-requires
move_again-requires g c = record { ready = c.requires.ready }

pub returns-in-None-clause-answers : goal.returns-in-None-clause-answers
returns-in-None-clause-answers g c =
    let old = c.args.dialogue.now in
    is_again c.args.naming.now old.debugger.start c.args.line.now (at_prompt old) (at_prompt c.move_again.new.dialogue) (answer_of (by_code c.with_code.result) c.move_again.new.said) c.in-None.ensures
    (subst (λ (r : Result (Unit {0}) Refusal). MovesAgain c.args.naming.now old.debugger.start old.memo.last (at_prompt old) (at_prompt c.move_again.new.dialogue) (answer_of r c.move_again.new.said)) (sym c.with_code.ensures) c.move_again.ensures.moves)

pub returns-in-None-clause-start : goal.returns-in-None-clause-start
returns-in-None-clause-start g c = c.move_again.ensures.start

pub returns-in-Some-Err-clause-answers : goal.returns-in-Some-Err-clause-answers
returns-in-Some-Err-clause-answers g c =
    is_refused c.args.naming.now c.args.dialogue.now.debugger.start c.args.line.now (at_prompt c.args.dialogue.now) (Err c.in-Some-Err.why.code) c.in-Some-Err.why.code (ap (λ r. Some (by_code r)) (sym c.in-Some-Err.field-0-is) ∙ c.in-Some-Err.ensures) refl

pub returns-in-Some-Err-clause-start : goal.returns-in-Some-Err-clause-start
returns-in-Some-Err-clause-start g c = refl

pub obey_request-requires : goal.obey_request-requires
obey_request-requires g c = record { ready = c.requires.ready }

pub returns-in-Some-Ok-clause-answers : goal.returns-in-Some-Ok-clause-answers
returns-in-Some-Ok-clause-answers g c =
    let old = c.args.dialogue.now in
    is_obeyed c.args.naming.now old.debugger.start c.args.line.now (at_prompt old) (at_prompt c.obey_request.new.dialogue) (answer_of (by_code c.with_code-in-Some-Ok.result) c.obey_request.new.said) c.in-Some-Ok.asked (ap (λ r. Some (by_code r)) (sym c.in-Some-Ok.field-0-is) ∙ c.in-Some-Ok.ensures)
    (subst (λ (r : Result (Unit {0}) Refusal). ObeysRequest c.args.naming.now old.debugger.start c.in-Some-Ok.asked (at_prompt old) (at_prompt c.obey_request.new.dialogue) (answer_of r c.obey_request.new.said)) (sym c.with_code-in-Some-Ok.ensures) c.obey_request.ensures.obeys)

pub returns-in-Some-Ok-clause-start : goal.returns-in-Some-Ok-clause-start
returns-in-Some-Ok-clause-start g c = c.obey_request.ensures.start

use Rattle.std.proofs.Common.{Option, Some, Ok, Err, refl, sym, subst, ◌∙◌, ap}
use Rattle.prompt_words.specs.Grammar.{Reading}
use Rattle.prompt_words.specs.Refusals.{answer_of}
use Rattle.debug_session.specs.Answers.{session_state, Follows}
use Rattle.debug_session.proofs.reply.answer.Goals as goal

pub returns-in-None-clause-answers : goal.returns-in-None-clause-answers
returns-in-None-clause-answers g c =
    let d = c.args.debugger.now in
    subst (λ (r : Option Reading). Follows d.start r (session_state d) (session_state d) (Ok c.clear.new.self)) c.in-None.ensures (refl, ap Ok c.clear.ensures)

pub returns-in-None-clause-start : goal.returns-in-None-clause-start
returns-in-None-clause-start g c = refl

pub returns-in-Some-Err-clause-answers : goal.returns-in-Some-Err-clause-answers
returns-in-Some-Err-clause-answers g c =
    let d = c.args.debugger.now in
    let why = c.in-Some-Err.refusal in
    subst (λ (r : Option Reading). Follows d.start r (session_state d) (session_state d) (Err why)) {x = Some (Err why)} (ap (λ r. Some r) (sym c.in-Some-Err.field-0-is) ∙ c.in-Some-Err.ensures) (refl, refl)

pub returns-in-Some-Err-clause-start : goal.returns-in-Some-Err-clause-start
returns-in-Some-Err-clause-start g c = refl

pub obey-requires : goal.obey-requires
obey-requires g c = record { ready = c.requires.ready }

pub returns-in-Some-Ok-clause-answers : goal.returns-in-Some-Ok-clause-answers
returns-in-Some-Ok-clause-answers g c =
    let d = c.args.debugger.now in
    let done = c.obey in
    subst (λ (r : Option Reading). Follows d.start r (session_state d) (session_state done.new.debugger) (answer_of done.result done.new.said)) {x = Some (Ok c.in-Some-Ok.command)} (ap (λ r. Some r) (sym c.in-Some-Ok.field-0-is) ∙ c.in-Some-Ok.ensures)
    done.ensures.obeyed

pub returns-in-Some-Ok-clause-start : goal.returns-in-Some-Ok-clause-start
returns-in-Some-Ok-clause-start g c = c.obey.ensures.start

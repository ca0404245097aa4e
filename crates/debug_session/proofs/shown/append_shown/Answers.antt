use Rattle.std.proofs.Common.{◌≡◌, ◌++◌, OnOk, sym, subst}
use Rattle.prompt_words.specs.declared.command.Shown.{Shown}
use Rattle.debug_session.specs.Answers.{session_state}
use Rattle.debug_session.specs.Missing.{why_text}
use Rattle.debug_session.specs.TypedAnswers.{Tells}
use Rattle.debug_session.specs.TypedMoves.{where_text, last_lines}
use Rattle.debug_session.proofs.shown.append_shown.Goals as goal

pub returns-in-Why-clause-ok : goal.returns-in-Why-clause-ok
returns-in-Why-clause-ok c =
    let d = c.args.debugger.now in
    subst (λ (k : Shown). OnOk c.append_why.result (Tells c.args.naming.now d.start (session_state d) k c.append_why.new.out.items)) (sym c.in-Why.is)
    (subst (λ l. OnOk c.append_why.result (c.append_why.new.out.items ≡ l ++ why_text c.args.naming.now.names c.in-Why.flow d.start d.shown)) c.requires c.append_why.ensures.ok)

pub returns-in-Why-clause-same : goal.returns-in-Why-clause-same
returns-in-Why-clause-same c = c.append_why.ensures.same

pub returns-in-Stalls-clause-ok : goal.returns-in-Stalls-clause-ok
returns-in-Stalls-clause-ok c =
    let d = c.args.debugger.now in
    subst (λ (k : Shown). OnOk c.append_stalls.result (Tells c.args.naming.now d.start (session_state d) k c.append_stalls.new.out.items)) (sym c.in-Stalls.is)
    c.append_stalls.ensures.ok

pub returns-in-Stalls-clause-same : goal.returns-in-Stalls-clause-same
returns-in-Stalls-clause-same c = c.append_stalls.ensures.same

pub returns-in-Lines-clause-ok : goal.returns-in-Lines-clause-ok
returns-in-Lines-clause-ok c =
    let d = c.args.debugger.now in
    subst (λ (k : Shown). OnOk c.append_last.result (Tells c.args.naming.now d.start (session_state d) k c.append_last.new.out.items)) (sym c.in-Lines.is)
    (subst (λ l. OnOk c.append_last.result (c.append_last.new.out.items ≡ l ++ last_lines d.start d.shown.position c.in-Lines.count)) c.requires c.append_last.ensures.ok)

pub returns-in-Lines-clause-same : goal.returns-in-Lines-clause-same
returns-in-Lines-clause-same c = c.append_last.ensures.same

pub returns-in-Where-clause-ok : goal.returns-in-Where-clause-ok
returns-in-Where-clause-ok c =
    let d = c.args.debugger.now in
    subst (λ (k : Shown). OnOk c.append_whereabouts.result (Tells c.args.naming.now d.start (session_state d) k c.append_whereabouts.new.out.items)) (sym c.in-Where.is)
    (subst (λ l. OnOk c.append_whereabouts.result (c.append_whereabouts.new.out.items ≡ l ++ where_text d.start d.shown c.in-Where.known)) c.requires c.append_whereabouts.ensures.ok)

pub returns-in-Where-clause-same : goal.returns-in-Where-clause-same
returns-in-Where-clause-same c = c.append_whereabouts.ensures.same

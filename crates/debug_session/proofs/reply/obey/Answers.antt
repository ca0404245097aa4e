use Rattle.std.proofs.Common.{Ok, Err, refl, sym, ap, subst}
use Rattle.debugger.specs.Debugging.{Debugging}
use Rattle.prompt_words.specs.declared.command.Command.{Command}
use Rattle.prompt_words.specs.declared.refusal.Refusal.TheVariants.{M}
use Rattle.prompt_words.specs.Refusals.{answer_of}
use Rattle.debug_session.specs.Answers.{session_state, Obeys}
use Rattle.debug_session.proofs.Moved.{moved_shown, state_shown}
use Rattle.debug_session.proofs.reply.obey.Goals as goal

pub make-requires : goal.make-requires
make-requires g c = record { ready = c.requires.ready }

pub returns-in-Ok-clause-obeyed : goal.returns-in-Ok-clause-obeyed
returns-in-Ok-clause-obeyed g c =
    let d = c.args.debugger.now in
    let told = c.say_state-told in
    let done = c.or_undone in
    subst (λ (k : Command). Obeys d.start k (session_state d) (session_state done.new.debugger) (answer_of done.result told.new.self)) (sym c.in-Go.is)
    (moved_shown c.in-Go.asked d c.make.new.debugger done.new.debugger _ told.result done.result told.new.self c.in-Ok.ensures.moved c.in-Ok.ensures.goes told.ensures done.ensures.same done.ensures.undone).obeyed

pub returns-in-Ok-clause-start : goal.returns-in-Ok-clause-start
returns-in-Ok-clause-start g c =
    let told = c.say_state-told in
    let done = c.or_undone in
    (moved_shown c.in-Go.asked c.args.debugger.now c.make.new.debugger done.new.debugger _ told.result done.result told.new.self c.in-Ok.ensures.moved c.in-Ok.ensures.goes told.ensures done.ensures.same done.ensures.undone).start

pub returns-in-Err-clause-obeyed : goal.returns-in-Err-clause-obeyed
returns-in-Err-clause-obeyed g c =
    let d = c.args.debugger.now in
    subst (λ (k : Command). Obeys d.start k (session_state d) (session_state c.make.new.debugger) (answer_of (Err M) c.args.said.now)) (sym c.in-Go.is) (ap session_state c.in-Err.ensures.err, tt)

pub returns-in-Err-clause-start : goal.returns-in-Err-clause-start
returns-in-Err-clause-start g c = ap (λ (d : Debugging). d.start) c.in-Err.ensures.err

pub returns-in-State-clause-obeyed : goal.returns-in-State-clause-obeyed
returns-in-State-clause-obeyed g c =
    let d = c.args.debugger.now in
    let told = c.say_state in
    subst (λ (k : Command). Obeys d.start k (session_state d) (session_state d) (answer_of told.result told.new.self)) (sym c.in-State.is) (state_shown d told.result told.new.self c.position-here.ensures.on_run told.ensures)

pub returns-in-State-clause-start : goal.returns-in-State-clause-start
returns-in-State-clause-start g c = refl

pub returns-in-SetBreak-clause-obeyed : goal.returns-in-SetBreak-clause-obeyed
returns-in-SetBreak-clause-obeyed g c =
    let d = c.args.debugger.now in
    subst (λ (k : Command). Obeys d.start k (session_state d) (session_state c.set_break.new.debugger) (answer_of c.set_break.result c.set_break.new.said)) (sym c.in-SetBreak.is) c.set_break.ensures.obeyed

pub returns-in-SetBreak-clause-start : goal.returns-in-SetBreak-clause-start
returns-in-SetBreak-clause-start g c = c.set_break.ensures.start

pub returns-in-Clear-clause-obeyed : goal.returns-in-Clear-clause-obeyed
returns-in-Clear-clause-obeyed g c =
    let d = c.args.debugger.now in
    subst (λ (k : Command). Obeys d.start k (session_state d) (session_state c.clear_breaks.new.self) (Ok c.say_cleared.new.self)) (sym c.in-Clear.is)
    (record { cleared = ap session_state c.clear_breaks.ensures; reported = c.say_cleared.ensures })

pub returns-in-Clear-clause-start : goal.returns-in-Clear-clause-start
returns-in-Clear-clause-start g c = ap (λ (d : Debugging). d.start) c.clear_breaks.ensures

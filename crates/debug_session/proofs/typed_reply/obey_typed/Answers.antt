use Rattle.std.proofs.Common.{◌<◌, ◌∙◌, List, length, Ok, refl, sym, subst, ap}
use Rattle.std.proofs.lemmas.Result.{MatchResult-weaker}
use Rattle.breakpoints.specs.declared.breaks.Break.{Break}
use Rattle.debugger.specs.Debugging.{Debugging}
use Rattle.prompt_words.specs.declared.command.Typed.{Typed}
use Rattle.prompt_words.specs.declared.command.Typed.TheVariants.{State, Breaks, Show}
use Rattle.prompt_words.specs.Refusals.{answer_of}
use Rattle.debug_session.specs.Answers.{session_state}
use Rattle.prompt_words.specs.Numbered.{listing}
use Rattle.debug_session.specs.Prompt.{ObeysShowing}
use Rattle.debug_session.proofs.Deleting.{told}
use Rattle.debug_session.proofs.typed_reply.obey_typed.Goals as goal

pub go_showing-requires : goal.go_showing-requires
go_showing-requires g c = record { ready = c.requires.ready }

pub returns-in-Go-clause-obeyed : goal.returns-in-Go-clause-obeyed
returns-in-Go-clause-obeyed g c =
    let d = c.args.debugger.now in
    let went = c.go_showing in
    subst (λ (k : Typed). ObeysShowing c.args.naming.now c.args.displays.now d.start k (session_state d) (session_state went.new.debugger) (answer_of went.result went.new.said)) (sym c.in-Go.is) went.ensures.obeyed

pub returns-in-Go-clause-start : goal.returns-in-Go-clause-start
returns-in-Go-clause-start g c = c.go_showing.ensures.start

pub returns-in-State-clause-obeyed : goal.returns-in-State-clause-obeyed
returns-in-State-clause-obeyed g c =
    let d = c.args.debugger.now in
    let said = c.say_state in
    subst (λ (k : Typed). ObeysShowing c.args.naming.now c.args.displays.now d.start k (session_state d) (session_state d) (answer_of said.result said.new.self)) (sym c.in-State.is)
    (told c.args.naming.now State d d said.result said.new.self refl
    (MatchResult-weaker said.result said.ensures (λ _ t. record { at = refl; on_run = c.position-here.ensures.on_run; breaks = refl; reported = t }) (λ _ t. (t, tt))))

pub returns-in-State-clause-start : goal.returns-in-State-clause-start
returns-in-State-clause-start g c = refl

pub returns-in-SetBreak-clause-obeyed : goal.returns-in-SetBreak-clause-obeyed
returns-in-SetBreak-clause-obeyed g c =
    let d = c.args.debugger.now in
    let set = c.set_numbered in
    subst (λ (k : Typed). ObeysShowing c.args.naming.now c.args.displays.now d.start k (session_state d) (session_state set.new.debugger) (answer_of set.result set.new.said)) (sym c.in-SetBreak.is) set.ensures.obeyed

pub returns-in-SetBreak-clause-start : goal.returns-in-SetBreak-clause-start
returns-in-SetBreak-clause-start g c = c.set_numbered.ensures.start

pub returns-in-Delete-clause-obeyed : goal.returns-in-Delete-clause-obeyed
returns-in-Delete-clause-obeyed g c =
    let d = c.args.debugger.now in
    let taken = c.delete in
    subst (λ (k : Typed). ObeysShowing c.args.naming.now c.args.displays.now d.start k (session_state d) (session_state taken.new.debugger) (answer_of taken.result taken.new.said)) (sym c.in-Delete.is) taken.ensures.obeyed

pub returns-in-Delete-clause-start : goal.returns-in-Delete-clause-start
returns-in-Delete-clause-start g c = c.delete.ensures.start

pub returns-in-Clear-clause-obeyed : goal.returns-in-Clear-clause-obeyed
returns-in-Clear-clause-obeyed g c =
    let d = c.args.debugger.now in
    subst (λ (k : Typed). ObeysShowing c.args.naming.now c.args.displays.now d.start k (session_state d) (session_state c.clear_breaks.new.self) (Ok c.say_cleared.new.self)) (sym c.in-Clear.is)
    (record { cleared = ap session_state c.clear_breaks.ensures; reported = c.say_cleared.ensures })

pub returns-in-Clear-clause-start : goal.returns-in-Clear-clause-start
returns-in-Clear-clause-start g c = ap (λ (d : Debugging). d.start) c.clear_breaks.ensures

pub returns-in-Breaks-clause-obeyed : goal.returns-in-Breaks-clause-obeyed
returns-in-Breaks-clause-obeyed g c =
    let d = c.args.debugger.now in
    let said = c.say_breaks in
    let same = c.breaks.ensures.value in
    subst (λ (k : Typed). ObeysShowing c.args.naming.now c.args.displays.now d.start k (session_state d) (session_state d) (answer_of said.result said.new.self)) (sym c.in-Breaks.is)
    (told c.args.naming.now Breaks d d said.result said.new.self refl
    (MatchResult-weaker said.result said.ensures (λ _ t. record { same = refl; reported = t ∙ ap (listing c.args.naming.now) same }) (λ _ t. (t.0, subst (λ (bs : List Break). 0 < length bs) same t.1))))

pub returns-in-Breaks-clause-start : goal.returns-in-Breaks-clause-start
returns-in-Breaks-clause-start g c = refl

pub returns-in-Show-clause-obeyed : goal.returns-in-Show-clause-obeyed
returns-in-Show-clause-obeyed g c =
    let d = c.args.debugger.now in
    let said = c.say_shown in
    subst (λ (k : Typed). ObeysShowing c.args.naming.now c.args.displays.now d.start k (session_state d) (session_state said.new.debugger) (answer_of said.result said.new.self)) (sym c.in-Show.is)
    (told c.args.naming.now (Show c.in-Show.what) d said.new.debugger said.result said.new.self said.ensures.same (MatchResult-weaker said.result said.ensures.reported (λ _ t. (refl, t)) (λ _ t. (t, tt))))

pub returns-in-Show-clause-start : goal.returns-in-Show-clause-start
returns-in-Show-clause-start g c = ap (λ (d : Debugging). d.start) c.say_shown.ensures.same

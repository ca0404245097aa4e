use Rattle.std.proofs.Common.{◌≡◌, ◌∙◌, Ok, Err, ap, subst}
use Rattle.debugger.specs.Debugging.{Debugging}
use Rattle.prompt_words.specs.declared.command.Typed.TheVariants.{Go}
use Rattle.debug_session.specs.Answers.{session_state}
use Rattle.debug_session.specs.Reported.{CanBeUndone}
use Rattle.debug_session.specs.TypedAnswers.{DoesTyped, ObeysTyped}
use Rattle.debug_session.proofs.Showing.{move_shown}
use Rattle.debug_session.proofs.typed_reply.go_behind.Goals as goal

pub go-requires : goal.go-requires
go-requires g c = record { ready = c.requires.ready }

pub returns-in-Ok-go-clause-obeyed : goal.returns-in-Ok-go-clause-obeyed
returns-in-Ok-go-clause-obeyed g c =
    let old = c.args.debugger.now in
    let between = c.go.new.debugger in
    let said = c.go.new.said in
    let told = c.say_behind-behind in
    let done = c.or_undone in
    let same = c.present_time.ensures.same in
    let made : CanBeUndone old between = subst (λ (d : Debugging). CanBeUndone d between) same c.in-Ok-go.ensures.left in
    let does : DoesTyped c.args.naming.now old.start (Go c.args.asked) (session_state old) (session_state between) said =
    subst (λ (d : Debugging). DoesTyped c.args.naming.now d.start (Go c.args.asked) (session_state d) (session_state between) said) same c.in-Ok-go.ensures.obeyed in
    (move_shown c.args.naming.now c.args.displays.now c.args.asked old between told.new.debugger done.new.debugger c.in-Ok.before said told.new.self told.result done.result c.in-Ok.ensures.ok made does told.ensures.same told.ensures.told done.ensures.same
    done.ensures.undone).obeyed

pub returns-in-Ok-go-clause-start : goal.returns-in-Ok-go-clause-start
returns-in-Ok-go-clause-start g c =
    let old = c.args.debugger.now in
    let between = c.go.new.debugger in
    let said = c.go.new.said in
    let told = c.say_behind-behind in
    let done = c.or_undone in
    let same = c.present_time.ensures.same in
    let made : CanBeUndone old between = subst (λ (d : Debugging). CanBeUndone d between) same c.in-Ok-go.ensures.left in
    let does : DoesTyped c.args.naming.now old.start (Go c.args.asked) (session_state old) (session_state between) said =
    subst (λ (d : Debugging). DoesTyped c.args.naming.now d.start (Go c.args.asked) (session_state d) (session_state between) said) same c.in-Ok-go.ensures.obeyed in
    (move_shown c.args.naming.now c.args.displays.now c.args.asked old between told.new.debugger done.new.debugger c.in-Ok.before said told.new.self told.result done.result c.in-Ok.ensures.ok made does told.ensures.same told.ensures.told done.ensures.same
    done.ensures.undone).start

pub returns-in-Err-go-clause-obeyed : goal.returns-in-Err-go-clause-obeyed
returns-in-Err-go-clause-obeyed g c =
    subst (λ (d : Debugging). ObeysTyped c.args.naming.now d.start (Go c.args.asked) (session_state d) (session_state c.go.new.debugger) (Err c.in-Err-go.why)) c.present_time.ensures.same c.in-Err-go.ensures.obeyed

pub returns-in-Err-go-clause-start : goal.returns-in-Err-go-clause-start
returns-in-Err-go-clause-start g c = c.go.ensures.start ∙ ap (λ (d : Debugging). d.start) c.present_time.ensures.same

pub returns-in-Err-clause-obeyed : goal.returns-in-Err-clause-obeyed
returns-in-Err-clause-obeyed g c = (ap session_state c.present_time.ensures.same, tt)

pub returns-in-Err-clause-start : goal.returns-in-Err-clause-start
returns-in-Err-clause-start g c = ap (λ (d : Debugging). d.start) c.present_time.ensures.same

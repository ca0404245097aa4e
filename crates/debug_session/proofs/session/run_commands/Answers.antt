use Rattle.std.proofs.Common.{◌≡◌, ◌<◌, ◌∙◌, List, ℕ, length, refl, subst, ap, arith}
use Rattle.std.proofs.lemmas.Bool.Decides.{nat_tests}
use Rattle.std.specs.Io.KnownBytes.{Appends}
use Rattle.table_run.specs.State.{State}
use Rattle.window_engine.specs.Failures.{counted}
use Rattle.debug_session.specs.Taking.{Takes, IsBeginningOf}
use Rattle.prompt_words.specs.Refusals.{answer_of}
use Rattle.debug_session.specs.Answers.{session_state, Answers}
use Rattle.prompt_words.proofs.Words.{after_shorter}
use Rattle.debug_session.proofs.Running.{first_taken, none_yet, one_more, one_failed, all_answered}
use Rattle.debug_session.proofs.session.run_commands.Goals as goal

pub loop-rest-init : goal.loop-rest-init
loop-rest-init g c = record {
  so_far = none_yet c.args.limits c.args.debugger.now.start c.args.commands.now (session_state c.args.debugger.now) (g.S.Sink.contents c.args.out.now);
  start = refl;
  failures = refl;
}

pub returns-in-Err-clause-ok : goal.returns-in-Err-clause-ok
returns-in-Err-clause-ok g c = tt

pub returns-in-Err-clause-err : goal.returns-in-Err-clause-err
returns-in-Err-clause-err g c =
    let some : 0 < length c.loop-rest.rest.now = grind (arith, nat_tests) in
    let answer = answer_of c.answer-answered.result c.answer-answered.new.said in
    let one = subst (λ (s : State). Answers c.args.limits s c.cut.result.0.now (session_state c.loop-rest.debugger) (session_state c.answer-answered.new.debugger) answer) c.loop-rest.invariant.start c.answer-answered.ensures.answers in
    one_failed c.args.limits c.args.debugger.now.start c.args.commands.now c.loop-rest.rest.now c.cut.result.0.now c.cut.result.1.now answer
    (session_state c.args.debugger.now) (session_state c.loop-rest.debugger) (session_state c.answer-answered.new.debugger) (g.S.Sink.contents c.args.out.now) (g.S.Sink.contents c.loop-rest.out) (g.S.Sink.contents c.put_all.new.sink)
    c.loop-rest.invariant.so_far some c.cut.ensures.before c.cut.ensures.after one
    (subst (λ (whole : List ℕ). Takes (IsBeginningOf (λ all. all ≡ whole)) (g.S.Sink.contents c.loop-rest.out) (g.S.Sink.contents c.put_all.new.sink)) c.text_of.ensures
    (first_taken c.text_of.result.now (g.S.Sink.contents c.loop-rest.out) (g.S.Sink.contents c.put_all.new.sink) c.in-Err.field-0 c.in-Err.ensures.err))

pub returns-in-Err-clause-failures : goal.returns-in-Err-clause-failures
returns-in-Err-clause-failures g c = c.in-Err.ensures.failures ∙ ap counted c.loop-rest.invariant.failures

pub loop-rest-smaller : goal.loop-rest-smaller
loop-rest-smaller g c =
    let some : 0 < length c.loop-rest.rest.now = grind (arith, nat_tests) in
    omega (arith, after_shorter 10 c.loop-rest.rest.now some, ap length c.cut.ensures.after)

pub loop-rest-preserved : goal.loop-rest-preserved
loop-rest-preserved g c =
    let some : 0 < length c.loop-rest.rest.now = grind (arith, nat_tests) in
    let answer = answer_of c.answer-answered.result c.answer-answered.new.said in
    let one = subst (λ (s : State). Answers c.args.limits s c.cut.result.0.now (session_state c.loop-rest.debugger) (session_state c.answer-answered.new.debugger) answer) c.loop-rest.invariant.start c.answer-answered.ensures.answers in
    record {
      so_far = one_more c.args.limits c.args.debugger.now.start c.args.commands.now c.loop-rest.rest.now c.cut.result.0.now c.cut.result.1.now answer
          (session_state c.args.debugger.now) (session_state c.loop-rest.debugger) (session_state c.answer-answered.new.debugger) (g.S.Sink.contents c.args.out.now) (g.S.Sink.contents c.loop-rest.out) (g.S.Sink.contents c.put_all.new.sink)
          c.loop-rest.invariant.so_far some c.cut.ensures.before c.cut.ensures.after one
          (subst (Appends (g.S.Sink.contents c.loop-rest.out) (g.S.Sink.contents c.put_all.new.sink)) c.text_of.ensures c.in-Ok.ensures.ok);
      start = c.answer-answered.ensures.start ∙ c.loop-rest.invariant.start;
      failures = c.in-Ok.ensures.failures ∙ c.loop-rest.invariant.failures;
    }

pub returns-clause-ok : goal.returns-clause-ok
returns-clause-ok g c =
    let none : length c.loop-rest.rest.now ≡ 0 = grind (arith, nat_tests) in
    all_answered c.args.limits c.args.debugger.now.start c.args.commands.now c.loop-rest.rest.now (session_state c.args.debugger.now) (session_state c.loop-rest.debugger) (g.S.Sink.contents c.args.out.now) (g.S.Sink.contents c.loop-rest.out)
    c.loop-rest.invariant.so_far none

pub returns-clause-failures : goal.returns-clause-failures
returns-clause-failures g c = c.loop-rest.invariant.failures

pub answer-answered-requires : goal.answer-answered-requires
answer-answered-requires g c = record { ready = c.requires.ready }

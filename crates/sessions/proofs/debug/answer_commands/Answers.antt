use Rattle.std.proofs.Common.{◌≡◌, ◌∙◌, Err, refl, sym, subst, ap, rules}
use Rattle.sessions.specs.Debug.{IsDebugSession}
use Rattle.sessions.specs.Done.{SessionIsDone, written_by}
use Rattle.sessions.specs.Ended.{SessionEnded}
use Rattle.sessions.proofs.DebugEnds.{answered, commands_no_failure, groups_no_failure, no_failure, not_answered, not_grouped, text_refused}
use Rattle.sessions.proofs.debug.answer_commands.Goals as goal

pub returns-in_err-scenario : goal.returns-in_err-scenario
returns-in_err-scenario g c now =
    let before = written_by g.W.Sink.failures g.W.Sink.contents now c.args.writer.now in
    let fault = c.in_err-scenario.field-0.0 in
    let groups = c.args.sharing.now.groups in
    let input = c.args.input.now in
    let text = c.split.result.0.now in
    let is : c.from_residual.result ≡ Err fault = search rules in
    let free = no_failure text fault c.reported_text.result c.in_err-scenario.was c.reported_text.ensures in
    subst (λ (e : SessionEnded). SessionIsDone (IsDebugSession groups input) before e before) (sym is)
    (record {
      session = text_refused groups input text fault c.reported_text.result before.written c.split.ensures.text c.requires.within c.in_err-scenario.was c.reported_text.ensures;
      no_read = free.1;
      reads = refl;
      writes = free.0 before.write_failures;
    })

pub returns-in_err-partition : goal.returns-in_err-partition
returns-in_err-partition g c now =
    let before = written_by g.W.Sink.failures g.W.Sink.contents now c.args.writer.now in
    let fault = c.in_err-partition.field-0.0 in
    let groups = c.args.sharing.now.groups in
    let input = c.args.input.now in
    let p = c.in_ok-scenario.scenario in
    let is : c.from_residual-in_err-partition.result ≡ Err fault = search rules in
    let free = groups_no_failure groups p fault c.in_err-partition.ensures.faults in
    subst (λ (e : SessionEnded). SessionIsDone (IsDebugSession groups input) before e before) (sym is)
    (record {
      session = not_grouped groups input c.split.result.0.now c.split.result.1.now p c.reported_text.result before.written before.written c.split.ensures.text c.split.ensures.commands c.requires.within c.in_ok-scenario.was
          c.reported_text.ensures c.in_ok-scenario.ensures.scenario fault c.in_err-partition.ensures.faults;
      no_read = free.1;
      reads = refl;
      writes = free.0 before.write_failures;
    })

pub returns-in-Ok : goal.returns-in-Ok
returns-in-Ok g c now =
    let known = g.W.Sink.contents in
    record {
      session = answered c.args.sharing.now.groups c.args.input.now c.split.result.0.now c.split.result.1.now c.in_ok-scenario.scenario c.reported_text.result (known c.args.writer.now) (known c.run_session-answered.new.out) c.split.ensures.text
          c.split.ensures.commands c.requires.within c.in_ok-scenario.was c.reported_text.ensures c.in_ok-scenario.ensures.scenario c.in_ok-partition.ensures.named c.in-Ok.ensures.output;
      no_read = λ e. cc;
      reads = refl;
      writes = c.in-Ok.ensures.failures;
    }

pub returns-in-Err : goal.returns-in-Err
returns-in-Err g c now =
    let at = written_by g.W.Sink.failures g.W.Sink.contents now in
    let before = at c.args.writer.now in
    let after = at c.run_session-answered.new.out in
    let groups = c.args.sharing.now.groups in
    let input = c.args.input.now in
    let fault = c.in-Err.fault in
    let free = commands_no_failure fault in
    subst (λ (e : SessionEnded). SessionIsDone (IsDebugSession groups input) before e after) (sym (ap Err c.from.ensures))
    (record {
      session = not_answered groups input c.split.result.0.now c.split.result.1.now c.in_ok-scenario.scenario c.reported_text.result before.written after.written c.split.ensures.text c.split.ensures.commands c.requires.within
          c.in_ok-scenario.was c.reported_text.ensures c.in_ok-scenario.ensures.scenario c.in_ok-partition.ensures.named fault c.in-Err.ensures.output;
      no_read = free.1;
      reads = refl;
      writes = c.in-Err.ensures.failures ∙ free.0 before.write_failures;
    })

use Rattle.std.proofs.Common.{◌≡◌, Err, refl, sym, subst, rules}
use Rattle.sessions.specs.Done.{SessionIsDone, written_by}
use Rattle.sessions.specs.Ended.{SessionEnded}
use Rattle.sessions.specs.Session.{IsSession}
use Rattle.sessions.proofs.Ends.{output_not_read, ran, refused, refused_not_read}
use Rattle.sessions.proofs.PromptEnds.{input_refused}
use Rattle.sessions.proofs.task.put_session.Goals as goal

pub returns-in_err-scenario : goal.returns-in_err-scenario
returns-in_err-scenario g c now =
    let before = written_by g.W.Sink.failures g.W.Sink.contents now c.args.writer.now in
    let fault = c.in_err-scenario.field-0.0 in
    let input = c.args.input.now in
    let read = c.reported_scenario.result in
    let says = c.reported_scenario.ensures in
    let is : c.from_residual.result ≡ Err fault = search rules in
    subst (λ (e : SessionEnded). SessionIsDone (IsSession c.args.subcommand input) before e before) (sym is)
    (record {
      session = refused c.args.subcommand input fault read before.written c.requires.within c.in_err-scenario.was says;
      no_read = refused_not_read input fault read c.in_err-scenario.was says;
      reads = refl;
      writes = (input_refused input input fault read c.requires.within c.in_err-scenario.was says).writes before.write_failures;
    })

pub returns : goal.returns
returns g c now =
    let subcommand = c.args.subcommand in
    let input = c.args.input.now in
    let p = c.in_ok-scenario.scenario in
    let ended = c.put_output.result in
    let wrote = c.put_output.ensures.output in
    record {
      session = ran subcommand input p c.reported_scenario.result ended (g.W.Sink.contents c.args.writer.now) (g.W.Sink.contents c.put_output.new.writer) c.requires.within c.in_ok-scenario.was c.reported_scenario.ensures wrote;
      no_read = output_not_read subcommand input p ended wrote.0 wrote.2;
      reads = refl;
      writes = c.put_output.ensures.failures;
    }

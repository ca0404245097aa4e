use Rattle.window_engine.proofs.Called.{begun_owing}
use Rattle.window_engine.proofs.run_state.RunState.write_singly.Goals as goal

pub returns-clause-owing : goal.returns-clause-owing
returns-clause-owing g c =
    let contents = g.S.Sink.contents in
    let new = c.go_singly.new in
    begun_owing c.args.call.now.until c.args.call.now.began.value new.self c.new.result new.written (contents c.args.call.now.known.value) (contents new.sink) c.in-Ok-go_singly.ensures.rests.rests c.new.ensures

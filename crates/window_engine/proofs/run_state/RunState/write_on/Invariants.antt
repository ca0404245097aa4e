-- the windows so far but the last two are written, the text of the one before the last is owed, and the sheaf has the lines of the last
use Rattle.std.proofs.Common.{◌-◌}
use Rattle.sim_time.specs.declared.limits.TheConstants.{MOST_EVENTS}
use Rattle.window_engine.specs.RunStates.{AwaitsSink}
use Rattle.window_engine.proofs.run_state.RunState.write_on.Given as goal

abbrev pub invariant-loop-fault : goal.invariant-loop-fault
invariant-loop-fault g l = AwaitsSink l.call.until l.call.began.value l.self l.writing.texts.pending_text l.writing.written (g.S.Sink.contents l.call.known.value) (g.S.Sink.contents l.sink) (g.S.Sink.failures l.call.known.value) (g.S.Sink.failures l.sink)

-- each window has a line
abbrev pub decreases-loop-fault : goal.decreases-loop-fault
decreases-loop-fault g l = MOST_EVENTS - l.self.window.position

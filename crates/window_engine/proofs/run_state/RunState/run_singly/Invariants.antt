-- the net's events so far are committed and written, and the sink has not failed
use Rattle.std.proofs.Common.{◌≡◌, ◌-◌, ◌+◌, ◌*◌, cond}
use Rattle.sim_time.specs.declared.limits.TheConstants.{MOST_EVENTS}
use Rattle.window_engine.specs.Singly.{IsOn}
use Rattle.window_engine.proofs.run_state.RunState.run_singly.Given as goal

abbrev pub invariant-loop-more : goal.invariant-loop-more
invariant-loop-more g l =
    IsOn l.call.until l.fn.self l.self l.single.net l.fn.written l.written (g.S.Sink.contents l.fn.sink) (g.S.Sink.contents l.sink) × (g.S.Sink.failures l.sink ≡ g.S.Sink.failures l.fn.sink)

-- each time but the last has an event
abbrev pub decreases-loop-more : goal.decreases-loop-more
decreases-loop-more g l = (MOST_EVENTS - l.single.net.position) * 2 + cond l.more 1 0

-- all events so far are those of the run from its beginning, and their lines were written
use Rattle.std.proofs.Common.{◌≡◌, ◌≤◌, Ok}
use Rattle.sim_time.specs.declared.limits.TheConstants.{MOST_EVENTS}
use Rattle.window_engine.specs.declared.fault.Stop.TheVariants.{End}
use Rattle.sessions.specs.Worked.{RunsTo}
use Rattle.sessions.proofs.workers.run_by_workers.Given as goal

abbrev pub invariant-loop-percent : goal.invariant-loop-percent
invariant-loop-percent g l =
    RunsTo l.fn.engine.net.state (Ok End) l.engine.net (g.W.Sink.contents l.fn.writer) (g.W.Sink.contents l.writer)
    × (l.engine.net.position ≤ MOST_EVENTS)
    × (g.W.Sink.failures l.writer ≡ g.W.Sink.failures l.fn.writer)

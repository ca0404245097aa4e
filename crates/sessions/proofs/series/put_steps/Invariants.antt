-- the rows of the steps so far were written
use Rattle.std.proofs.Common.{◌≡◌, ◌-◌}
use Rattle.sessions.proofs.Stepped.{IsSoFar}
use Rattle.sessions.proofs.series.put_steps.Given as goal

abbrev pub invariant-loop-text : goal.invariant-loop-text
invariant-loop-text g l = record {
  so_far : IsSoFar l.column l.scenario l.row_steps.from l.row_steps.every l.begin l.counter.figures l.counter.net (g.W.Sink.contents l.fn.writer) (g.W.Sink.contents l.writer);
  failures : g.W.Sink.failures l.writer ≡ g.W.Sink.failures l.fn.writer;
}

abbrev pub decreases-loop-text : goal.decreases-loop-text
decreases-loop-text g l = l.scenario.end - l.begin

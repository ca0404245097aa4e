use Rattle.std.proofs.Common.{rules}
use Rattle.table_run.specs.State.{initial}
use Rattle.sessions.proofs.Lines.{nothing_made}
use Rattle.sessions.proofs.trace.run_scenario.Goals as goal

pub returns-in_err-page-clause-output : goal.returns-in_err-page-clause-output
returns-in_err-page-clause-output g c = nothing_made (initial c.args.scenario.now) c.from_residual.result (g.W.Sink.contents c.args.writer.now) (search rules)

pub returns-in_err-net-clause-output : goal.returns-in_err-net-clause-output
returns-in_err-net-clause-output g c = nothing_made (initial c.args.scenario.now) c.from_residual-in_err-net.result (g.W.Sink.contents c.args.writer.now) (search rules)

use Rattle.std.proofs.Common.{◌≡◌, Err, sym, subst, rules}
use Rattle.sessions.specs.Ended.{SessionEnded}
use Rattle.sessions.specs.Output.{IsSharedOutput}
use Rattle.sessions.specs.Written.{Writes}
use Rattle.sessions.proofs.Shared.{not_shared, ran_shared}
use Rattle.sessions.proofs.run.put_trace.Goals as goal

pub returns-in_err-partition-clause-output : goal.returns-in_err-partition-clause-output
returns-in_err-partition-clause-output g c =
    let fault = c.in_err-partition.field-0.0 in
    let known = g.W.Sink.contents c.args.writer.now in
    let groups = c.args.sharing.now.groups in
    let is : c.from_residual.result ≡ Err fault = search rules in
    subst (λ (ended : SessionEnded). Writes (IsSharedOutput groups c.args.scenario.now ended) known known) (sym is) (not_shared groups c.args.scenario.now fault known c.in_err-partition.ensures.faults)

pub returns-then-is_alone-clause-output : goal.returns-then-is_alone-clause-output
returns-then-is_alone-clause-output g c =
    ran_shared c.args.sharing.now.groups c.args.scenario.now c.run_scenario.result (g.W.Sink.contents c.args.writer.now) (g.W.Sink.contents c.run_scenario.new.writer) c.in_ok-partition.ensures.named c.run_scenario.ensures.output

pub returns-clause-output : goal.returns-clause-output
returns-clause-output g c =
    ran_shared c.args.sharing.now.groups c.args.scenario.now c.run_by_windows.result (g.W.Sink.contents c.args.writer.now) (g.W.Sink.contents c.run_by_windows.new.writer) c.in_ok-partition.ensures.named c.run_by_windows.ensures.output

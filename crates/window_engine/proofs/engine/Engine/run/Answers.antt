use Rattle.std.proofs.Common.{◌≡◌, sym, subst, IfErr}
use Rattle.std.proofs.lemmas.Result.{IfErr-weaker}
use Rattle.net_machine.specs.Run.{Reached}
use Rattle.window_core.specs.Full.{HasTooMany}
use Rattle.window_workers.specs.Edges.{edge_of, reached_in}
use Rattle.window_engine.specs.Engines.{Commits, EngineValue}
use Rattle.window_engine.specs.Outcomes.{IsOfRun, IsRunFault}
use Rattle.window_engine.specs.declared.fault.EngineFault.TheVariants.{CountFull}
use Rattle.window_engine.proofs.Between.{commits_none, net_is}
use Rattle.window_engine.proofs.engine.Engine.run.Goals as goal

pub returns-then-self-clause-commits : goal.returns-then-self-clause-commits
returns-then-self-clause-commits g c = commits_none c.args.until c.args.self.now.net (g.S.Sink.contents c.args.sink.now)

pub returns-clause-commits : goal.returns-clause-commits
returns-clause-commits g c =
    let e = c.self.inside in
    let rest = (c.self.invariant c.if-self.false).0 in
    let contents = g.S.Sink.contents in
    let run_state = c.write_together-outcome.new.self in
    let at : Reached → Type 0 = λ r. Commits c.args.until r c.write_together-outcome.result (record { state = edge_of run_state.window; position = run_state.position }) (contents c.args.sink.now) (contents c.write_together-outcome.new.sink) in
    subst (λ (v : EngineValue). at v.net) c.self.view_is (subst at (sym (net_is e.run_state.window e.run_state.position rest.committed)) c.write_together-outcome.ensures.commits)

pub returns-clause-fault : goal.returns-clause-fault
returns-clause-fault g c _ =
    let many = HasTooMany (reached_in c.self.inside.run_state.window) in
    IfErr-weaker c.write_together-outcome.result (IsRunFault c.args.workers many) (IsOfRun c.args.workers) (λ fault is. is.0) c.write_together-outcome.ensures.fault

pub returns-clause-full : goal.returns-clause-full
returns-clause-full g c =
    let e = c.self.inside in
    let rest = (c.self.invariant c.if-self.false).0 in
    let many = HasTooMany (reached_in e.run_state.window) in
    let full = IfErr-weaker c.write_together-outcome.result (IsRunFault c.args.workers many) (λ fault. fault ≡ CountFull → many) (λ fault is. is.1) c.write_together-outcome.ensures.fault in
    subst (λ (v : EngineValue). IfErr c.write_together-outcome.result (λ fault. fault ≡ CountFull → HasTooMany v.net)) c.self.view_is
    (subst (λ (r : Reached). IfErr c.write_together-outcome.result (λ fault. fault ≡ CountFull → HasTooMany r)) (sym (net_is e.run_state.window e.run_state.position rest.committed)) full)

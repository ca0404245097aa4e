use Rattle.std.proofs.Common.{◌∙◌, ap, subst, ◌≡◌, false}
use Rattle.net_machine.specs.Run.{IsRun}
use Rattle.window_engine.specs.Engines.{EngineValue}
use Rattle.window_engine.proofs.Between.{net_of_run}
use Rattle.window_engine.proofs.engine.Engine.position.Goals as goal

pub returns-clause-is_run : goal.returns-clause-is_run
returns-clause-is_run c quiet =
    let e = c.self.inside in
    let none : e.failed ≡ false = ap (λ (v : EngineValue). v.failed) c.self.view_is ∙ quiet in
    let rest = (c.self.invariant none).0 in
    subst (λ (v : EngineValue). IsRun v.net) c.self.view_is (net_of_run e.run_state.window e.run_state.position rest.edge c.position-reached.ensures.is_window rest.committed rest.few)

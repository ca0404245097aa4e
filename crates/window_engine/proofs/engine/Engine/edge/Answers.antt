use Rattle.std.proofs.Common.{◌∙◌, ap, subst, ◌≡◌, false, IfOk}
use Rattle.window_engine.specs.Engines.{EngineValue}
use Rattle.window_engine.proofs.Between.{edge_given}
use Rattle.window_engine.proofs.engine.Engine.edge.Goals as goal

pub returns : goal.returns
returns c =
    let e = c.self.inside in
    let none : e.failed ≡ false = ap (λ (v : EngineValue). v.failed) c.self.view_is ∙ c.requires in
    let rest = (c.self.invariant none).0 in
    subst (λ (v : EngineValue). IfOk c.edge.result (λ net. net ≡ v.net)) c.self.view_is
    (edge_given c.edge.result e.run_state.window e.run_state.position rest.committed c.position-reached.ensures.is_window rest.edge c.edge.ensures)

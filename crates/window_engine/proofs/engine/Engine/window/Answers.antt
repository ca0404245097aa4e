use Rattle.std.proofs.Common.{◌<◌, ℕ, length, min, refl, subst, sym, ◌∙◌}
use Rattle.window_core.specs.Window.{WindowValue}
use Rattle.window_workers.specs.Edges.{StaysNet, edge_of, reached_in}
use Rattle.window_engine.specs.Engines.{EngineValue, GoesOn, IsNext, NoneBelow, window_end_by}
use Rattle.window_core.specs.Full.{HasTooMany}
use Rattle.window_core.specs.Windows.{AreBelow}
use Rattle.window_engine.proofs.Between.{early_apart, left_apart, net_is}
use Rattle.window_engine.proofs.Grouped.{ran_on}
use Rattle.window_engine.proofs.TooMany.{count_of, full_of, of_workers}
use Rattle.window_engine.proofs.engine.Engine.window.Goals as goal

pub returns-clause-none_left : goal.returns-clause-none_left
returns-clause-none_left g c =
    let e = c.self.inside in
    let u = e.run_state.window in
    let kept = c.self.invariant c.if-self.false in
    subst (λ (v : EngineValue). NoneBelow (window_end_by v c.args.until) (edge_of c.finish.new.window)) c.self.view_is
    (left_apart e.run_state.window u e.run_state.groups e.run_state.ahead e.run_state.position c.args.until kept.0.edge c.position-reached.ensures.is_window refl kept.1.apart.1 c.finish.new.window (subst (λ (w : WindowValue). NoneBelow (min w.until c.args.until) (edge_of c.finish.new.window)) c.of-before.ensures c.in-Ok.ensures.turned.none_left))

pub returns-clause-early : goal.returns-clause-early
returns-clause-early g c =
    let e = c.self.inside in
    let u = e.run_state.window in
    let kept = c.self.invariant c.if-self.false in
    let lines = c.finish.new.lines.lines in
    subst (λ (v : EngineValue). AreBelow (window_end_by v c.args.until) lines) c.self.view_is
    (early_apart e.run_state.window u e.run_state.groups e.run_state.ahead e.run_state.position c.args.until kept.0.edge c.position-reached.ensures.is_window refl kept.1.apart.1 lines (subst (λ (w : WindowValue). AreBelow (min w.until c.args.until) lines) c.of-before.ensures c.in-Ok.ensures.turned.early))

pub returns-in-Err-clause-full : goal.returns-in-Err-clause-full
returns-in-Err-clause-full g c is =
    let e = c.self.inside in
    let rest = (c.self.invariant c.if-self.false).0 in
    subst (λ (v : EngineValue). HasTooMany v.net) c.self.view_is
    (subst HasTooMany (sym (net_is e.run_state.window e.run_state.position rest.committed)) (subst (λ (w : WindowValue). HasTooMany (reached_in w)) c.of-before.ensures (full_of c.args.workers (HasTooMany (reached_in c.of-before.result.value)) c.in-Err.fault c.in-Err.ensures.fault (count_of c.in-Err.fault (sym c.engine_fault.ensures ∙ is)))))

pub returns-in-Err-clause-fault : goal.returns-in-Err-clause-fault
returns-in-Err-clause-fault g c _ =
    rw c.engine_fault.ensures (of_workers c.args.workers (HasTooMany (reached_in c.of-before.result.value)) c.in-Err.fault c.in-Err.ensures.fault)

pub invariant_of-self-2 : goal.invariant_of-self-2
invariant_of-self-2 g c _ =
    let u = c.self.inside.run_state in
    let w = c.finish.new.window in
    let ran = c.in-Ok.ensures.turned in
    let kept = c.self.invariant c.if-self.false in
    let now = c.position-self-inside.ensures in
    ran_on u (record u { window = w; position = c.position-self-inside.result }) c.finish.new.lines kept.0 kept.1 refl (subst (λ (x : WindowValue). StaysNet x w) c.of-before.ensures c.finish.ensures.stays) ran.edge (subst (λ (x : WindowValue). GoesOn (reached_in x) c.finish.new.lines (reached_in w)) c.of-before.ensures ran.gone) now.count now.is_window.split.fits

pub returns-clause-some : goal.returns-clause-some
returns-clause-some g c =
    let e = c.self.inside in
    let lines = c.finish.new.lines.lines in
    subst (λ (v : EngineValue). (time : ℕ) → IsNext c.args.until v.net.state time → 0 < length lines) c.self.view_is
    (subst (λ (w : WindowValue). (time : ℕ) → IsNext c.args.until (edge_of w) time → 0 < length lines) c.of-before.ensures c.in-Ok.ensures.turned.some)

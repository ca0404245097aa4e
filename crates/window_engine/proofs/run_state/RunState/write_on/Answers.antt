use Rattle.std.proofs.Common.{◌∙◌, ap, arith}
use Rattle.window_core.specs.Window.{WindowValue}
use Rattle.window_engine.proofs.run_state.RunState.write_on.Goals as goal

-- the next event is below the window's bound, so the window has a line
pub loop-fault-smaller : goal.loop-fault-smaller
loop-fault-smaller g c =
    let window = ap (λ x. x.window.value) c.settle.ensures.same ∙ c.of-now.ensures in
    let more = c.in-Ok-go_on.ensures.some c.in-Ok-plan.plan.next (rw window c.in-Ok-plan.ensures.next) in
    let few = c.in-Ok-go_on.ensures.owing.owing.behind.few in
    let here = ap (λ (w : WindowValue). w.position) window in
    let on = c.in-Ok.ensures.on in
    omega (arith, more, few, here, on)

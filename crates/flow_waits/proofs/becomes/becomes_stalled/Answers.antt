use Rattle.std.proofs.Common.{◌≡◌, ◌&&◌, ◌∙◌, true, false, sym, ap}
use Rattle.std.proofs.lemmas.Result.{IfOk-weaker}
use Rattle.node_core.specs.TraceLine.{shown}
use Rattle.flow_waits.specs.Stalled.{is_stalled, becomes_stalled, may_stall}
use Rattle.flow_waits.proofs.Found.{found_by_step}
use Rattle.flow_waits.proofs.becomes.becomes_stalled.Goals as goal

pub returns-then-may_stall : goal.returns-then-may_stall
returns-then-may_stall c = λ before is stepped.
    let flow = c.args.flow in
    let after = c.args.net.now.state in
    let line = c.args.line.now in
    let may : may_stall flow line.event line.acts.acts ≡ true = ap (λ (acts : _). may_stall flow line.event acts) (sym c.as_slice.ensures) ∙ sym c.may_stall.ensures ∙ c.if-may_stall.true in
    let found : becomes_stalled flow before.state after ≡ is_stalled flow after = found_by_step before c.args.net.now (shown line) flow is stepped ∙ ap (λ b. b && is_stalled flow after) may in
    IfOk-weaker c.is_stalled.result (λ stalled. stalled ≡ is_stalled flow after) (λ stalled. stalled ≡ becomes_stalled flow before.state after) (λ stalled e. e ∙ sym found) c.is_stalled.ensures

pub returns-else-may_stall : goal.returns-else-may_stall
returns-else-may_stall c = λ before is stepped.
    let flow = c.args.flow in
    let after = c.args.net.now.state in
    let line = c.args.line.now in
    let may : may_stall flow line.event line.acts.acts ≡ false = ap (λ (acts : _). may_stall flow line.event acts) (sym c.as_slice.ensures) ∙ sym c.may_stall.ensures ∙ c.if-may_stall.false in
    sym (found_by_step before c.args.net.now (shown line) flow is stepped ∙ ap (λ b. b && is_stalled flow after) may)

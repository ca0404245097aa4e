use Rattle.std.proofs.Common.{◌∙◌, ◌++◌, sym, ap, append_assoc, append-nil}
use Rattle.node_core.specs.TraceLine.{shown}
use Rattle.debugger.specs.Stalls.{stall_by, stalls_below}
use Rattle.debugger.proofs.StallsFound.{stalls_more, stalls_none}
use Rattle.debugger.proofs.stalls.push_each_stall.Goals as goal

pub loop-flow-init : goal.loop-flow-init
loop-flow-init c =
    let out = c.args.out.now.items in
    sym (append-nil out) ∙ ap (λ l. out ++ l) (sym (stalls_none c.args.net.now.position c.args.before.now.value.state (shown c.args.line.now) c.args.net.now.state))

pub loop-flow-preserved : goal.loop-flow-preserved
loop-flow-preserved c =
    let out = c.args.out.now.items in
    let p = c.args.net.now.position in
    let before = c.args.before.now.value.state in
    let line = shown c.args.line.now in
    let after = c.args.net.now.state in
    let flow = c.loop-flow.flow in
    c.in_ok-push_stall.ensures.ok ∙ ap (λ l. l ++ stall_by p before line after flow) c.loop-flow.invariant ∙ append_assoc out (stalls_below flow p before line after) (stall_by p before line after flow)
    ∙ ap (λ l. out ++ l) (sym (stalls_more p before line after flow))

use Rattle.std.proofs.Common.{◌≡◌, ◌∙◌, ℕ, true, sym, ap}
use Rattle.std.specs.Prelude.{◌↔◌, IsTrue}
use Rattle.std.proofs.lemmas.Result.{IfOk-weaker}
use Rattle.node_core.specs.TraceLine.{shown}
use Rattle.flow_waits.specs.Stalled.{becomes_stalled, some_stalls}
use Rattle.flow_waits.proofs.Found.{some_found}
use Rattle.flow_waits.proofs.becomes.some_becomes_stalled.Goals as goal

pub returns : goal.returns
returns c = λ before is stepped.
    let after = c.args.net.now.state in
    let line = c.args.line.now in
    let found = some_found before c.args.net.now (shown line) is stepped in
    let acts = ap (λ (acts : _). some_stalls line.event acts after) c.as_slice.ensures in
    IfOk-weaker c.some_stalls.result (λ stalled. stalled ≡ some_stalls line.event c.as_slice.result.now after) (λ stalled. IsTrue stalled ↔ ((flow : ℕ) × (becomes_stalled flow before.state after ≡ true)))
    (λ stalled e. (λ t. found.0 (sym (e ∙ acts) ∙ t), λ one. (e ∙ acts) ∙ found.1 one)) c.some_stalls.ensures

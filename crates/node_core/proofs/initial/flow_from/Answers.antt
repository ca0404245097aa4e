use Rattle.std.proofs.Common.{◌≡◌, ◌==◌, sym, ◌∙◌, Some, None, rules, tests}
use Rattle.std.specs.List.{position}
use Rattle.std.proofs.lemmas.Iterator.{YieldsList-from_slice}
use Rattle.std.proofs.lemmas.Iterator.Search.{position_from_yields_List}
use Rattle.sim_time.specs.declared.variant.TheConstants.{RENO}
use Rattle.scenario_image.specs.declared.parts.FlowPart.{FlowPart}
use Rattle.node_core.proofs.Numbered.{found_at}
use Rattle.node_core.proofs.initial.flow_from.Goals as goal

abbrev no_flow : FlowPart
no_flow = record { sender = 0; receiver = 0; mss = 0; segments = 0; start = 0; rwnd = 0; delack = 0; variant = RENO }

pub returns-in_err-number : goal.returns-in_err-number
returns-in_err-number c =
    let flows = c.args.flows.now in
    let node_is = λ (f : FlowPart). f.sender == c.args.node in
    let at : c.position.result ≡ position node_is flows = position_from_yields_List node_is _ _ c.position.result c.position.ensures.ran (YieldsList-from_slice flows cc) (λ x b q k. search (rules, tests)) in
    c.from_residual.ensures ∙ sym (found_at node_is flows None no_flow (sym (c.in_err-number.was) ∙ at))

pub returns : goal.returns
returns c =
    let flows = c.args.flows.now in
    let node_is = λ (f : FlowPart). f.sender == c.args.node in
    let at : c.position.result ≡ position node_is flows = position_from_yields_List node_is _ _ c.position.result c.position.ensures.ran (YieldsList-from_slice flows cc) (λ x b q k. search (rules, tests)) in
    sym (found_at node_is flows (Some c.in_ok-number.number) no_flow (sym (c.in_ok-number.was) ∙ at))

use Rattle.std.proofs.Common.{◌<◌, List, length, sym, ap, subst, ◌∙◌, arith}
use Rattle.scenario_image.specs.Scenario.{IsScenario}
use Rattle.scenario_image.specs.declared.parts.LinkPart.{LinkPart}
use Rattle.scenario_image.specs.declared.parts.ScenarioParts.{ScenarioParts}
use Rattle.node_core.specs.declared.role.Role.{Role}
use Rattle.node_core.specs.InStep.{flow_of}
use Rattle.node_core.specs.Node.{initial_node}
use Rattle.node_core.specs.Initial.{node_kind, leaving_links}
use Rattle.node_core.specs.InitialEventQueue.{numbers_of}
use Rattle.node_core.proofs.OneFlow.{few_numbers}
use Rattle.node_core.proofs.AtFirst.{in_step_at_first, opened_node}
use Rattle.node_core.proofs.node.Node.new.Goals as goal

pub leaving_numbers-requires : goal.leaving_numbers-requires
leaving_numbers-requires c =
    let is = subst IsScenario (sym c.parts-parts.ensures.value) c.parts-parts.ensures.scenario in
    omega (arith, ap length c.as_slice.ensures.value, is.in_limits.counts.link_count.1)

pub initial_role-requires-clause-scenario : goal.initial_role-requires-clause-scenario
initial_role-requires-clause-scenario c = subst IsScenario (sym c.parts-parts.ensures.value) c.parts-parts.ensures.scenario

pub initial_role-requires-clause-within : goal.initial_role-requires-clause-within
initial_role-requires-clause-within c = subst (λ (p : ScenarioParts). c.args.number < length p.nodes) (sym c.parts-parts.ensures.value) c.requires

pub initial_role-requires-clause-leaving : goal.initial_role-requires-clause-leaving
initial_role-requires-clause-leaving c = c.deref.ensures.value ∙ c.in_ok-leaving.ensures ∙ ap (λ (links : List LinkPart). numbers_of (leaving_links links c.args.number)) c.as_slice.ensures.value

pub initial_links-requires : goal.initial_links-requires
initial_links-requires c = let is = subst IsScenario (sym c.parts-parts.ensures.value) c.parts-parts.ensures.scenario in is.in_limits

pub initial_event_queue-requires-clause-at : goal.initial_event_queue-requires-clause-at
initial_event_queue-requires-clause-at c =
    let p = c.parts-parts in
    let is = subst IsScenario (sym p.ensures.value) p.ensures.scenario in
    let under = subst (λ (q : ScenarioParts). c.args.number < length q.nodes) (sym p.ensures.value) c.requires in
    record {
      scenario = is;
      within = under;
      few = few_numbers p.result.now is c.args.number under c.as_slice.result.now c.in_ok-leaving.leaving.items c.as_slice.ensures.value c.in_ok-leaving.ensures;
      leave_it = c.in_ok-leaving.ensures ∙ ap (λ (links : List LinkPart). numbers_of (leaving_links links c.args.number)) c.as_slice.ensures.value;
    }

pub initial_event_queue-requires-clause-flow : goal.initial_event_queue-requires-clause-flow
initial_event_queue-requires-clause-flow c = c.flow.ensures ∙ ap (λ (role : Role). flow_of role) c.in_ok-role.ensures

pub initial_role-requires-clause-few : goal.initial_role-requires-clause-few
initial_role-requires-clause-few c =
    let p = c.parts-parts in
    let under = subst (λ (q : ScenarioParts). c.args.number < length q.nodes) (sym p.ensures.value) c.requires in
    let numbers = few_numbers p.result.now (subst IsScenario (sym p.ensures.value) p.ensures.scenario) c.args.number under c.as_slice.result.now c.in_ok-leaving.leaving.items c.as_slice.ensures.value c.in_ok-leaving.ensures in
    omega (arith, numbers, ap length c.deref.ensures.value)

pub invariant_of-result : goal.invariant_of-result
invariant_of-result c =
    let p = c.parts-parts in
    let under = subst (λ (q : ScenarioParts). c.args.number < length q.nodes) (sym p.ensures.value) c.requires in
    in_step_at_first p.result.now (subst IsScenario (sym p.ensures.value) p.ensures.scenario) c.args.number under c.in_ok-role.role c.in_ok-links.links.items c.in_ok-event_queue.event_queue c.in_ok-role.ensures c.in_ok-links.ensures c.in_ok-event_queue.ensures

pub returns : goal.returns
returns c =
    let p = c.parts-parts in
    opened_node p.result.now (subst IsScenario (sym c.parts-parts.ensures.value) c.parts-parts.ensures.scenario) c.args.number (subst (λ (p : ScenarioParts). c.args.number < length p.nodes) (sym c.parts-parts.ensures.value) c.requires) c.in_ok-role.role c.in_ok-links.links.items c.in_ok-event_queue.event_queue c.in_ok-role.ensures c.in_ok-links.ensures c.in_ok-event_queue.ensures
    ∙ ap (λ (q : ScenarioParts). initial_node q (c.args.number, node_kind q c.args.number)) p.ensures.value

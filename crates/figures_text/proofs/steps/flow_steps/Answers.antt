use Rattle.std.proofs.Common.{◌≡◌, ◌<◌, ◌++◌, ◌∷◌, [], List, length, get_or, take, sym, ap, ap₂, subst, ◌∙◌, arith, rules, None}
use Rattle.std.proofs.lemmas.List.{take_more, length-map, get_or-map}
use Rattle.scenario_image.specs.declared.parts.FlowPart.{FlowPart}
use Rattle.figures.specs.Moments.{moments}
use Rattle.figures_text.specs.declared.step.FlowStep.{FlowStep}
use Rattle.figures_text.specs.declared.summary.FlowSummary.{FlowSummary}
use Rattle.figures_text.specs.Steps.{flow_step, flow_steps, window_at}
use Rattle.figures_text.proofs.OfRun.{flow_said, flows_many, no_flow_part}
use Rattle.figures_text.proofs.steps.flow_steps.Goals as goal

-- what stands where there is no flow
abbrev no_counts : FlowSummary
no_counts = record { start = 0; delivered = 0; completed = None; sent = 0; again_in_recovery = 0; again_otherwise = 0; timeouts = 0; round_trips = 0; least = None; median = None; high = None; highest = None; greatest = None }

pub bounds-counts-number : goal.bounds-counts-number
bounds-counts-number c =
    let p = c.args.scenario.now in
    let of = c.requires.run.of in
    let ms = moments c.requires.run.base.state of.count in
    let same : c.as_slice-flows.result.now ≡ p.flows = search rules in
    let size = ap (λ (l : List FlowPart). length l) same in
    let are = c.as_slice-counts.ensures.value ∙ c.in_ok-summaries.ensures c.requires.run.base of in
    let many = ap (λ (l : List FlowSummary). length l) are in
    let all = flows_many p c.requires.run.base ms c.args.net.now.state in
    omega (arith, c.loop-number-test.true, size, many, all)

pub loop-number-preserved : goal.loop-number-preserved
loop-number-preserved c = λ b of.
    let p = c.args.scenario.now in
    let s = c.args.net.now.state in
    let ms = moments b.state of.count in
    let flows = c.as_slice-flows.result.now in
    let i = c.loop-number.number in
    let same : flows ≡ p.flows = search rules in
    let size = ap (λ (l : List FlowPart). length l) same in
    let under : i < length p.flows = omega (arith, c.loop-number-test.true, size) in
    let all = flow_steps p c.args.until b ms s in
    let many = length-map p.flows (flow_step c.args.until b ms s) in
    let inside : i < length all = subst (λ n. i < n) (sym many) under in
    let are = c.as_slice-counts.ensures.value ∙ c.in_ok-summaries.ensures b of in
    let it : FlowStep = c.flow_step.result in
    let counts = ap (λ (l : List FlowSummary). get_or l i no_counts) are ∙ flow_said p b ms s i no_flow_part no_counts under in
    let flow = ap (λ (l : List FlowPart). get_or l i no_flow_part) same in
    let said : it ≡ get_or all i it =
    c.flow_step.ensures s c.nodes-nodes.ensures.parts
    ∙ ap₂ (λ (counts : FlowSummary) (flow : FlowPart). record { counts = counts; window = window_at s c.args.until flow }) counts flow
    ∙ sym (get_or-map (flow_step c.args.until b ms s) p.flows i no_flow_part it under) in
    c.in_ok-push.ensures.items
    ∙ ap (λ (xs : List FlowStep). xs ++ it ∷ []) (c.loop-number.invariant b of)
    ∙ ap (λ (x : FlowStep). take i all ++ x ∷ []) said
    ∙ sym (take_more all i it inside)

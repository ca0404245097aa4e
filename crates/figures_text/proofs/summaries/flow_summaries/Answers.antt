use Rattle.std.proofs.Common.{◌≡◌, ◌<◌, ◌++◌, ◌∷◌, [], List, length, get_or, take, sym, ap, subst, ◌∙◌, arith, rules}
use Rattle.std.proofs.lemmas.List.{take_more}
use Rattle.scenario_image.specs.declared.parts.FlowPart.{FlowPart}
use Rattle.figures.specs.Moments.{moments, turns_at}
use Rattle.figures.specs.Senders.{AreOfTurns}
use Rattle.figures.specs.declared.sender.SenderFigures.{SenderFigures}
use Rattle.figures_text.specs.declared.summary.FlowSummary.{FlowSummary}
use Rattle.figures_text.specs.Summaries.{flow_summary, flow_summaries}
use Rattle.figures_text.proofs.OfRun.{flow_counted, flow_said, flows_many, no_flow_part}
use Rattle.figures_text.proofs.summaries.flow_summaries.Goals as goal

pub flow_summary-requires-clause-sender : goal.flow_summary-requires-clause-sender
flow_summary-requires-clause-sender c =
    let p = c.args.scenario.now in
    let flows = c.as_slice-flows.result.now in
    let i = c.loop-number.number in
    let same : flows ≡ p.flows = search rules in
    let size = ap (λ (l : List FlowPart). length l) same in
    let under : i < length p.flows = omega (arith, c.loop-number-test.true, size) in
    subst (λ (l : List FlowPart). (get_or l i no_flow_part).sender < length c.args.figures.now.senders.items) (sym same)
    (flow_counted p c.requires.run.base c.args.figures.now c.args.net.now c.requires.scenario c.requires.run.of i no_flow_part under).within

pub loop-number-preserved : goal.loop-number-preserved
loop-number-preserved c = λ b of.
    let p = c.args.scenario.now in
    let f = c.args.figures.now in
    let r = c.args.net.now in
    let ms = moments b.state of.count in
    let flows = c.as_slice-flows.result.now in
    let i = c.loop-number.number in
    let same : flows ≡ p.flows = search rules in
    let size = ap (λ (l : List FlowPart). length l) same in
    let under : i < length p.flows = omega (arith, c.loop-number-test.true, size) in
    let all = flow_summaries p b ms r.state in
    let many = flows_many p b ms r.state in
    let inside : i < length all = subst (λ n. i < n) (sym many) under in
    let it : FlowSummary = c.in_ok-flow_summary.field-0 in
    let counted = flow_counted p b f r c.requires.scenario of i no_flow_part under in
    let turns = subst (λ (l : List FlowPart). (other : SenderFigures) → AreOfTurns (turns_at (get_or l i no_flow_part).sender b.earlier) (turns_at (get_or l i no_flow_part).sender ms) (get_or f.senders.items (get_or l i no_flow_part).sender other)) (sym same) counted.turns in
    let said : it ≡ get_or all i it =
    c.in_ok-flow_summary.ensures b ms r.state c.nodes-nodes.ensures.parts (of.figures.received (get_or flows i no_flow_part).receiver) turns
    ∙ ap (λ (l : List FlowPart). flow_summary b ms r.state (get_or l i no_flow_part)) same
    ∙ sym (flow_said p b ms r.state i no_flow_part it under) in
    c.in_ok-push.ensures.items
    ∙ ap (λ (xs : List FlowSummary). xs ++ it ∷ []) (c.loop-number.invariant b of)
    ∙ ap (λ (x : FlowSummary). take i all ++ x ∷ []) said
    ∙ sym (take_more all i it inside)

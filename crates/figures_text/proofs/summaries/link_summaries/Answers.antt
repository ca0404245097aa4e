use Rattle.std.proofs.Common.{◌≡◌, ◌<◌, ◌≤◌, ◌++◌, ◌∷◌, [], List, length, get_or, take, sym, ap, subst, ◌∙◌, arith, rules}
use Rattle.std.proofs.lemmas.List.{take_more, take_all}
use Rattle.sim_time.specs.declared.limits.TheConstants.{MOST_EVENTS}
use Rattle.scenario_image.specs.declared.parts.LinkPart.{LinkPart}
use Rattle.scenario_image.specs.declared.parts.ScenarioParts.{ScenarioParts}
use Rattle.net_machine.specs.Wiring.{from_of, exit_of}
use Rattle.figures.specs.Moments.{moments}
use Rattle.figures.specs.Links.{AreOfLink}
use Rattle.figures.specs.declared.links.NodeLinks.{NodeLinks}
use Rattle.figures.specs.declared.link.LinkFigures.{LinkFigures}
use Rattle.figures_text.specs.declared.summary.LinkSummary.{LinkSummary}
use Rattle.figures_text.specs.Summaries.{summary_of_exit, link_summaries}
use Rattle.figures_text.proofs.OfRun.{link_counted, link_said, links_many, last_most, end_most}
use Rattle.figures_text.proofs.summaries.link_summaries.Goals as goal

pub link_summary-requires-clause-node : goal.link_summary-requires-clause-node
link_summary-requires-clause-node c =
    let p = c.args.scenario.now in
    let f = c.args.figures.now in
    let i = c.loop-number.number in
    let same : c.as_slice-links.result.now ≡ p.links = search rules in
    let size = ap (λ (l : List LinkPart). length l) same in
    let under : i < length p.links = omega (arith, c.loop-number-test.true, size) in
    subst (λ (l : List LinkPart). from_of l i < length f.links.items) (sym same) (link_counted p c.requires.run.base f c.args.net.now c.requires.scenario c.requires.run.of i under).within

pub link_summary-requires-clause-index : goal.link_summary-requires-clause-index
link_summary-requires-clause-index c other =
    let p = c.args.scenario.now in
    let f = c.args.figures.now in
    let i = c.loop-number.number in
    let same : c.as_slice-links.result.now ≡ p.links = search rules in
    let size = ap (λ (l : List LinkPart). length l) same in
    let under : i < length p.links = omega (arith, c.loop-number-test.true, size) in
    subst (λ (l : List LinkPart). exit_of l i < length (get_or f.links.items (from_of l i) other).figures.items) (sym same) ((link_counted p c.requires.run.base f c.args.net.now c.requires.scenario c.requires.run.of i under).index other)

pub link_summary-requires-clause-few : goal.link_summary-requires-clause-few
link_summary-requires-clause-few c other link =
    let p = c.args.scenario.now in
    let f = c.args.figures.now in
    let i = c.loop-number.number in
    let same : c.as_slice-links.result.now ≡ p.links = search rules in
    let size = ap (λ (l : List LinkPart). length l) same in
    let under : i < length p.links = omega (arith, c.loop-number-test.true, size) in
    let waits = ((link_counted p c.requires.run.base f c.args.net.now c.requires.scenario c.requires.run.of i under).link other link).few.waits in
    let events = c.requires.run.of.figures.events in
    let few : (get_or (get_or f.links.items (from_of p.links i) other).figures.items (exit_of p.links i) link).waits.count ≤ MOST_EVENTS = omega (arith, waits, events, c.requires.few) in
    subst (λ (l : List LinkPart). (get_or (get_or f.links.items (from_of l i) other).figures.items (exit_of l i) link).waits.count ≤ MOST_EVENTS) (sym same) few

pub link_summary-requires-clause-moment : goal.link_summary-requires-clause-moment
link_summary-requires-clause-moment c =
    let p = c.args.scenario.now in
    let last = last_most p c.requires.run.base c.args.figures.now c.args.net.now c.requires.scenario c.requires.run.of in
    let most = end_most p c.requires.run.base c.args.figures.now c.args.net.now c.requires.scenario c.requires.run.of in
    omega (arith, last, most)

pub link_summary-requires-clause-order : goal.link_summary-requires-clause-order
link_summary-requires-clause-order c other link =
    let p = c.args.scenario.now in
    let f = c.args.figures.now in
    let i = c.loop-number.number in
    let same : c.as_slice-links.result.now ≡ p.links = search rules in
    let size = ap (λ (l : List LinkPart). length l) same in
    let under : i < length p.links = omega (arith, c.loop-number-test.true, size) in
    let its = (link_counted p c.requires.run.base f c.args.net.now c.requires.scenario c.requires.run.of i under).link other link in
    subst (λ (l : List LinkPart). (get_or (get_or f.links.items (from_of l i) other).figures.items (exit_of l i) link).since ≤ f.last) (sym same)
    (subst (λ n. (get_or (get_or f.links.items (from_of p.links i) other).figures.items (exit_of p.links i) link).since ≤ n) (sym c.requires.run.of.figures.last) its.since)

pub loop-number-preserved : goal.loop-number-preserved
loop-number-preserved c = λ b of.
    let p = c.args.scenario.now in
    let f = c.args.figures.now in
    let r = c.args.net.now in
    let ms = moments b.state of.count in
    let i = c.loop-number.number in
    let same : c.as_slice-links.result.now ≡ p.links = search rules in
    let to_end : ScenarioParts = record p { end = c.args.end } in
    let size = ap (λ (l : List LinkPart). length l) same in
    let under : i < length p.links = omega (arith, c.loop-number-test.true, size) in
    let all = link_summaries to_end b ms r.state in
    let many = links_many to_end b ms r.state in
    let inside : i < length all = subst (λ n. i < n) (sym many) under in
    let it : LinkSummary = c.in_ok-link_summary.field-0 in
    let counted = link_counted p b f r c.requires.scenario of i under in
    let link = subst (λ (l : List LinkPart). (other : NodeLinks) (link : LinkFigures) → AreOfLink b ms r.state (from_of l i) (exit_of l i) (get_or (get_or f.links.items (from_of l i) other).figures.items (exit_of l i) link)) (sym same) counted.link in
    let said : it ≡ get_or all i it =
    c.in_ok-link_summary.ensures b ms r.state link (sym of.figures.last)
    ∙ ap (λ (l : List LinkPart). summary_of_exit (from_of l i) (exit_of l i) c.args.end b ms r.state) same
    ∙ sym (link_said to_end b ms r.state i it under) in
    c.in_ok-push.ensures.items
    ∙ ap (λ (xs : List LinkSummary). xs ++ it ∷ []) (c.loop-number.invariant b of)
    ∙ ap (λ (x : LinkSummary). take i all ++ x ∷ []) said
    ∙ sym (take_more all i it inside)

pub returns : goal.returns
returns c = λ b of.
    let p = c.args.scenario.now in
    let i = c.loop-number.number in
    let same : c.as_slice-links.result.now ≡ p.links = search rules in
    let size = ap (λ (l : List LinkPart). length l) same in
    let to_end : ScenarioParts = record p { end = c.args.end } in
    let many = links_many to_end b (moments b.state of.count) c.args.net.now.state in
    let all = link_summaries to_end b (moments b.state of.count) c.args.net.now.state in
    c.loop-number.invariant b of ∙ take_all i all (omega (arith, c.loop-number-test.false, size, many))

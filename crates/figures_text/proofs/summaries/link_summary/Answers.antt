use Rattle.std.proofs.Common.{◌≡◌, ◌<◌, ◌≤◌, ℕ, List, length, get_or, sym, ap, subst, ◌∙◌}
use Rattle.std.proofs.lemmas.List.{get_or_read}
use Rattle.sim_time.specs.declared.limits.TheConstants.{MOST_EVENTS}
use Rattle.scenario_image.specs.declared.parts.LinkPart.{LinkPart}
use Rattle.net_machine.specs.Wiring.{from_of, exit_of, no_link_part}
use Rattle.figures.specs.Links.{AreOfLink}
use Rattle.figures.specs.declared.links.NodeLinks.{NodeLinks}
use Rattle.figures.specs.declared.link.LinkFigures.{LinkFigures}
use Rattle.figures_text.proofs.summaries.link_summary.Goals as goal

-- what was counted of a link of a node, where the node and the link are these
found : (items : List NodeLinks) (at from index exit : ℕ) (node : NodeLinks) (counted : LinkFigures) → at ≡ from → index ≡ exit → node ≡ get_or items at node → counted ≡ get_or node.figures.items index counted
    → counted ≡ get_or (get_or items from node).figures.items exit counted
found items at from index exit node counted same_node same_link node_is counted_is =
    counted_is ∙ ap (λ n. get_or node.figures.items n counted) same_link ∙ ap (λ (n : NodeLinks). get_or n.figures.items exit counted) (node_is ∙ ap (λ n. get_or items n node) same_node)

-- the node that a link leaves, as it is read
left : (links : List LinkPart) (number from : ℕ) (link : LinkPart) → number < length links → link ≡ get_or links number link → from ≡ (get_or links number link).from → from ≡ from_of links number
left links number from link under read is = is ∙ ap (λ (l : LinkPart). l.from) (sym read ∙ get_or_read links number link under read no_link_part)

pub of_exit-requires-clause-few : goal.of_exit-requires-clause-few
of_exit-requires-clause-few c =
    let links = c.args.links.now in
    let at = left links c.args.number c.from.result c.index-links-number.result c.requires.number c.index-links-number.is c.from.ensures in
    let is = found c.args.figures.now.links.items c.from.result (from_of links c.args.number) c.exit_of.result (exit_of links c.args.number) c.index-node.result.now c.index-counted.result.now at c.exit_of.ensures c.index-node.ensures
    c.index-counted.ensures in
    subst (λ (f : LinkFigures). f.waits.count ≤ MOST_EVENTS) (sym is) (c.requires.few c.index-node.result.now c.index-counted.result.now)

pub of_exit-requires-clause-order : goal.of_exit-requires-clause-order
of_exit-requires-clause-order c =
    let links = c.args.links.now in
    let at = left links c.args.number c.from.result c.index-links-number.result c.requires.number c.index-links-number.is c.from.ensures in
    let is = found c.args.figures.now.links.items c.from.result (from_of links c.args.number) c.exit_of.result (exit_of links c.args.number) c.index-node.result.now c.index-counted.result.now at c.exit_of.ensures c.index-node.ensures
    c.index-counted.ensures in
    subst (λ (f : LinkFigures). f.since ≤ c.args.figures.now.last) (sym is) (c.requires.order c.index-node.result.now c.index-counted.result.now)

pub returns : goal.returns
returns c = λ b ms s each last.
    let links = c.args.links.now in
    let from = from_of links c.args.number in
    let exit = exit_of links c.args.number in
    let at = left links c.args.number c.from.result c.index-links-number.result c.requires.number c.index-links-number.is c.from.ensures in
    let is = found c.args.figures.now.links.items c.from.result from c.exit_of.result exit c.index-node.result.now c.index-counted.result.now at c.exit_of.ensures c.index-node.ensures c.index-counted.ensures in
    c.of_exit.ensures b ms s from exit (subst (AreOfLink b ms s from exit) (sym is) (each c.index-node.result.now c.index-counted.result.now)) last

use Rattle.std.proofs.Common.{◌≡◌, ◌+◌, ◌++◌, ◌∷◌, [], List, length, get_or, sym, ap, subst, ◌∙◌}
use Rattle.std.proofs.lemmas.List.{get_or_read, length_push}
use Rattle.node_core.specs.Node.{NodeState}
use Rattle.node_core.specs.Part.{LinkState}
use Rattle.net_machine.specs.Nodes.{no_node, node_at}
use Rattle.figures.specs.Links.{AreLinksBegun}
use Rattle.figures.specs.declared.links.NodeLinks.{NodeLinks}
use Rattle.figures.proofs.Pushed.{one_pushed}
use Rattle.figures.proofs.figures.all_links_begun.Goals as goal

pub loop-node-preserved : goal.loop-node-preserved
loop-node-preserved c =
    let so_far = c.loop-node.all.items in
    let begun : NodeLinks = c.in_ok-new.field-0 in
    let items : c.push.new.self.items ≡ so_far ++ begun ∷ [] = c.in_ok-push.ensures.items in
    let node : c.node-item.result ≡ node_at c.args.nodes.now c.loop-node.node-index = get_or_read c.args.nodes.now c.loop-node.node-index c.node-item.result c.loop-node-test.true c.node-item.is no_node in
    let links : AreLinksBegun c.args.since c.node-item.result.part.links begun.figures.items = subst (λ (ls : List LinkState). AreLinksBegun c.args.since ls begun.figures.items) c.ports.ensures c.in_ok-new.ensures in
    let here : AreLinksBegun c.args.since (node_at c.args.nodes.now c.loop-node.node-index).part.links begun.figures.items = subst (λ (n : NodeState). AreLinksBegun c.args.since n.part.links begun.figures.items) node links in
    record {
      size = ap length items ∙ length_push so_far begun ∙ ap (λ n. n + 1) c.loop-node.invariant.size;
      figures = λ place other under. subst (λ (all : List NodeLinks). AreLinksBegun c.args.since (node_at c.args.nodes.now place).part.links (get_or all place other).figures.items) (sym items)
          (one_pushed (λ i (f : NodeLinks). AreLinksBegun c.args.since (node_at c.args.nodes.now i).part.links f.figures.items) so_far begun c.loop-node.node-index c.loop-node.invariant.size c.loop-node.invariant.figures here place other under);
    }

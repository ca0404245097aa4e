use Rattle.std.proofs.Common.{◌≡◌, ◌+◌, ◌++◌, ◌∷◌, [], ℕ, length, get_or, sym, ap, subst, ◌∙◌}
use Rattle.std.proofs.lemmas.List.{get_or_read, length_push}
use Rattle.node_core.specs.Node.{NodeState}
use Rattle.table_run.specs.Flow.{next_at}
use Rattle.net_machine.specs.Nodes.{no_node, node_at}
use Rattle.figures.proofs.Pushed.{one_pushed}
use Rattle.figures.proofs.figures.all_received.Goals as goal

pub loop-node-preserved : goal.loop-node-preserved
loop-node-preserved c =
    let so_far = c.loop-node.all.items in
    let next : ℕ = c.received_at.result in
    let items : c.push.new.self.items ≡ so_far ++ next ∷ [] = c.in_ok-push.ensures.items in
    let node : c.node-item.result ≡ node_at c.args.nodes.now c.loop-node.node-index = get_or_read c.args.nodes.now c.loop-node.node-index c.node-item.result c.loop-node-test.true c.node-item.is no_node in
    let here : next ≡ next_at (node_at c.args.nodes.now c.loop-node.node-index).part.role = c.received_at.ensures ∙ ap (λ (n : NodeState). next_at n.part.role) node in
    record {
      size = ap length items ∙ length_push so_far next ∙ ap (λ n. n + 1) c.loop-node.invariant.size;
      bytes = λ place other under. subst (λ all. get_or all place other ≡ next_at (node_at c.args.nodes.now place).part.role) (sym items)
          (one_pushed (λ i n. n ≡ next_at (node_at c.args.nodes.now i).part.role) so_far next c.loop-node.node-index c.loop-node.invariant.size c.loop-node.invariant.bytes here place other under);
    }

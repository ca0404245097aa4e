use Rattle.std.proofs.Common.{◌≡◌, ◌+◌, ◌++◌, ◌∷◌, [], Option, None, ℕ, length, get_or, sym, ap, subst, ◌∙◌}
use Rattle.std.proofs.lemmas.List.{get_or_read, length_push}
use Rattle.node_core.specs.Node.{NodeState}
use Rattle.net_machine.specs.Nodes.{no_node, node_at}
use Rattle.figures.specs.Senders.{IsBegun}
use Rattle.figures.specs.declared.sender.SenderFigures.{SenderFigures}
use Rattle.figures.proofs.Pushed.{one_pushed}
use Rattle.figures.proofs.figures.all_begun.Goals as goal

pub loop-place-preserved : goal.loop-place-preserved
loop-place-preserved c =
    let so_far = c.loop-place.all.items in
    let at = c.loop-place.place in
    let begun : SenderFigures = c.begun.result in
    let items : c.push.new.self.items ≡ so_far ++ begun ∷ [] = c.in_ok-push.ensures.items in
    let node : c.index-nodes-place.result ≡ node_at c.args.nodes.now at = get_or_read c.args.nodes.now at c.index-nodes-place.result c.loop-place-test.true c.index-nodes-place.is no_node in
    let here : IsBegun (get_or c.args.earlier.now at None) (node_at c.args.nodes.now at).part.role begun =
    subst (λ (o : Option ℕ). IsBegun o (node_at c.args.nodes.now at).part.role begun) c.completed_at.ensures (subst (λ (n : NodeState). IsBegun c.completed_at.result n.part.role begun) node c.begun.ensures) in
    record {
      size = ap length items ∙ length_push so_far begun ∙ ap (λ n. n + 1) c.loop-place.invariant.size;
      figures = λ place other under. subst (λ all. IsBegun (get_or c.args.earlier.now place None) (node_at c.args.nodes.now place).part.role (get_or all place other)) (sym items)
          (one_pushed (λ i f. IsBegun (get_or c.args.earlier.now i None) (node_at c.args.nodes.now i).part.role f) so_far begun at c.loop-place.invariant.size c.loop-place.invariant.figures here place other under);
    }

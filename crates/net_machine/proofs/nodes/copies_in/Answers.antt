use Rattle.std.proofs.Common.{◌≡◌, ◌<◌, ◌++◌, ◌∷◌, [], List, take, length, sym, ap, subst, ◌∙◌, Option, arith}
use Rattle.std.specs.Prelude.{IfSome}
use Rattle.std.proofs.lemmas.List.{get_or_read, length-set, take_more}
use Rattle.node_core.specs.Node.{NodeState}
use Rattle.net_machine.specs.Nodes.{no_node, node_at}
use Rattle.net_machine.proofs.Copies.{one_less, is_copy}
use Rattle.net_machine.proofs.nodes.copies_in.Goals as goal

pub copy_of-requires : goal.copy_of-requires
copy_of-requires c =
    let nodes = c.args.nodes.now in
    let place = c.loop-place.place in
    let inv = c.loop-place.invariant in
    let inside : place < length nodes = c.loop-place-test.true in
    let within : place < length c.loop-place.made.items = omega (arith, inside, inv.size) in
    subst (λ (o : Option NodeState). IfSome o (λ copy. copy ≡ c.index-nodes-place.result)) (sym c.take.ensures.value)
    (is_copy nodes c.loop-place.made.items inv.are place within c.index_mut.result.now c.index_mut.ensures.value c.index-nodes-place.result (get_or_read nodes place c.index-nodes-place.result inside c.index-nodes-place.is no_node))

pub loop-place-preserved : goal.loop-place-preserved
loop-place-preserved c =
    let nodes = c.args.nodes.now in
    let place = c.loop-place.place in
    let inv = c.loop-place.invariant in
    let inside : place < length nodes = c.loop-place-test.true in
    let within : place < length c.loop-place.made.items = omega (arith, inside, inv.size) in
    let node_is : c.in_ok-copy_of.field-0 ≡ node_at nodes place = c.in_ok-copy_of.ensures ∙ get_or_read nodes place c.index-nodes-place.result inside c.index-nodes-place.is no_node in
    record {
      done = c.in_ok-push.ensures.items
          ∙ ap (λ (copies : List NodeState). copies ++ c.in_ok-copy_of.field-0 ∷ []) inv.done
          ∙ ap (λ (node : NodeState). take place nodes ++ node ∷ []) node_is
          ∙ sym (take_more nodes place no_node inside);
      size = length-set c.loop-place.made.items place c.take.new.self ∙ inv.size;
      are = one_less nodes c.loop-place.made.items inv.are place within c.take.new.self c.take.ensures.after;
    }

use Rattle.std.proofs.Common.{◌≡◌, ◌≢◌, ◌<◌, ◌+◌, ◌==◌, [], ◌∷◌, ℕ, List, take, length, get_or, length-append, sym, ap, subst, ◌∙◌, ⊎_elim, arith}
use Rattle.std.proofs.lemmas.Bool.{cases_eq}
use Rattle.std.proofs.lemmas.List.{get_or_read, length-set, length-take, get_or_append_left, get_or_push}
use Rattle.std.proofs.lemmas.List.Sums.{count_by-le-length}
use Rattle.std.specs.List.{count_by}
use Rattle.node_core.specs.Part.{link_at}
use Rattle.node_core.specs.Node.{NodeState}
use Rattle.net_machine.specs.declared.places.LinkEnds.{LinkEnds}
use Rattle.net_machine.specs.Nodes.{no_node, node_at}
use Rattle.net_machine.specs.Wiring.{no_ends, ends_at}
use Rattle.net_machine.proofs.Counting.{counted_more}
use Rattle.node_group.specs.GroupStates.{exit_in, sent_over}
use Rattle.node_group.proofs.sharing.sent_over.Goals as goal

pub overflow_add-index : goal.overflow_add-index
overflow_add-index c =
    let i = c.loop-ends.ends-index in
    let links = c.args.links.now in
    let from = c.from-from.result in
    let there : from < length c.args.nodes.now = subst (λ n. n < length c.args.nodes.now) (sym c.from-from.ensures) (c.requires.from i c.loop-ends-test.true) in
    let inside : from < length c.loop-ends.leaving.items = omega (arith, there, c.loop-ends.invariant.width) in
    let read = get_or_read c.loop-ends.leaving.items from c.index-index.result.now inside c.index-index.ensures 0 in
    let counted = c.loop-ends.invariant.counted from there in
    let most = count_by-le-length (λ (ends : LinkEnds). ends.from == from) (take i links) in
    let long = length-take i links in
    omega (arith, read, counted, most, long, c.requires.few)

pub loop-ends-preserved : goal.loop-ends-preserved
loop-ends-preserved c =
    let i = c.loop-ends.ends-index in
    let links = c.args.links.now in
    let nodes = c.args.nodes.now in
    let inv = c.loop-ends.invariant in
    let before = c.loop-ends.sent.items in
    let leaving = c.loop-ends.leaving.items in
    let from = c.from-from.result in
    let within : i < length links = c.loop-ends-test.true in
    let from_is : from ≡ (ends_at links i).from = c.from-from.ensures in
    let there : from < length nodes = subst (λ n. n < length nodes) (sym from_is) (c.requires.from i within) in
    let inside : from < length leaving = omega (arith, there, inv.width) in
    let read : c.index-index.result.now ≡ get_or leaving from 0 = get_or_read leaving from c.index-index.result.now inside c.index-index.ensures 0 in
    let exit_is : c.index-index.result.now ≡ exit_in links i = read ∙ inv.counted from there ∙ ap (λ n. count_by (λ (ends : LinkEnds). ends.from == n) (take i links)) from_is in
    let node_is : c.index-nodes-from.result ≡ node_at nodes (ends_at links i).from = get_or_read nodes from c.index-nodes-from.result there c.index-nodes-from.is no_node ∙ ap (node_at nodes) from_is in
    let here : c.sent_by.result ≡ sent_over links nodes i =
    c.sent_by.ensures ∙ ap (λ n. (link_at c.index-nodes-from.result.part.links n).port.sent) exit_is ∙ ap (λ (node : NodeState). (link_at node.part.links (exit_in links i)).port.sent) node_is in
    let more = c.in_ok-push.ensures.items in
    record {
      size = ap length more ∙ length-append before (c.sent_by.result ∷ []) ∙ ap (λ n. n + 1) inv.size;
      each_link = λ link under. ap (λ (sent : List ℕ). get_or sent link 0) more ∙ ⊎_elim
          (λ (at : link ≡ i). get_or_push before c.sent_by.result 0 link (inv.size ∙ sym at) ∙ here ∙ ap (sent_over links nodes) (sym at))
          (λ (apart : link ≢ i). let below : link < i = omega (arith, under, apart) in get_or_append_left before (c.sent_by.result ∷ []) 0 link (subst (λ n. link < n) (sym inv.size) below) ∙ inv.each_link link below)
          (cases_eq link i);
      width = length-set leaving from _ ∙ inv.width;
      counted = λ node known. counted_more (λ (ends : LinkEnds). ends.from) links i no_ends within leaving from from_is inside _ (ap (λ n. n + 1) read) node (inv.counted node known);
    }

use Rattle.std.proofs.Common.{◌≡◌, ◌<◌, length, ◌∙◌, arith}
use Rattle.std.proofs.lemmas.List.{get_or_read}
use Rattle.net_machine.specs.Nodes.{no_node, node_at}
use Rattle.net_machine.proofs.Copies.{one_more}
use Rattle.net_machine.proofs.nodes.copy_one.Goals as goal

pub returns-clause-copies : goal.returns-clause-copies
returns-clause-copies c =
    let nodes = c.args.nodes.now in
    let place = c.from-place.result in
    let inside : place < length nodes = c.if-place-nodes.false in
    let within : place < length c.args.copies.now = omega (arith, inside, c.requires.size) in
    let is : c.in_ok-copy.copy ≡ node_at nodes place = c.in_ok-copy.ensures ∙ get_or_read nodes place c.index-nodes-place.result inside c.index-nodes-place.is no_node in
    one_more nodes c.args.copies.now c.requires.before place within c.in_ok-copy.copy is c.replace-before.new.self c.replace-before.ensures.after

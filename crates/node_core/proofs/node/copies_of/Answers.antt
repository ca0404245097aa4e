use Rattle.std.proofs.Common.{◌∙◌}
use Rattle.std.proofs.lemmas.List.{take_all}
use Rattle.node_core.proofs.Copies.{one_copied}
use Rattle.node_core.proofs.node.copies_of.Goals as goal

pub loop-link-preserved : goal.loop-link-preserved
loop-link-preserved c = one_copied c.args.links.now _ _ c.loop-link.link-index _ c.link-item.result c.in_ok-push.ensures.items c.loop-link.invariant c.in_ok-copy.ensures c.link-item.is c.loop-link-test.true

pub returns : goal.returns
returns c = c.loop-link.invariant ∙ take_all c.loop-link.link-index c.args.links.now c.loop-link-test.false

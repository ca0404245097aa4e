use Rattle.std.proofs.Common.{map, ap, ◌∙◌}
use Rattle.std.proofs.lemmas.List.{take_all}
use Rattle.node_core.specs.EventQueueState.{fresh_wire}
use Rattle.node_core.proofs.Copies.{one_made_of}
use Rattle.node_core.proofs.event_queue.wires_of.Goals as goal

pub new-requires : goal.new-requires
new-requires c = c.requires c.loop-link.link-index c.loop-link-test.true

pub loop-link-preserved : goal.loop-link-preserved
loop-link-preserved c = one_made_of (fresh_wire c.args.node) c.args.links.now _ _ c.loop-link.link-index _ 0 c.in_ok-push.ensures.items c.loop-link.invariant c.new.ensures c.loop-link-test.true

pub returns : goal.returns
returns c = c.loop-link.invariant ∙ ap (map (fresh_wire c.args.node)) (take_all c.loop-link.link-index c.args.links.now c.loop-link-test.false)

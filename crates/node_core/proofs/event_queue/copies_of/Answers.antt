use Rattle.std.proofs.Common.{◌∙◌}
use Rattle.std.proofs.lemmas.List.{take_all}
use Rattle.node_core.proofs.Copies.{one_copied}
use Rattle.node_core.proofs.event_queue.copies_of.Goals as goal

pub loop-wire-preserved : goal.loop-wire-preserved
loop-wire-preserved c = one_copied c.args.wires.now _ _ c.loop-wire.wire-index _ c.wire-item.result c.in_ok-push.ensures.items c.loop-wire.invariant c.in_ok-copy.ensures c.wire-item.is c.loop-wire-test.true

pub returns : goal.returns
returns c = c.loop-wire.invariant ∙ take_all c.loop-wire.wire-index c.args.wires.now c.loop-wire-test.false

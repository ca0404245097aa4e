use Rattle.std.proofs.Common.{◌∙◌, sym}
use Rattle.scenario_image.proofs.Loops.{nodes_step, nodes_stop}
use Rattle.scenario_image.proofs.reading.nodes_of.Goals as goal

pub returns-in-None : goal.returns-in-None
returns-in-None c = nodes_stop c.args.bytes.now c.loop-byte.nodes.items c.loop-byte.byte-index c.loop-byte-test.true (sym c.node_of.ensures ∙ c.in-None.is) c.loop-byte.invariant

pub loop-byte-preserved : goal.loop-byte-preserved
loop-byte-preserved c =
    rw c.in_ok-push-in-Some.ensures.items
    (nodes_step c.args.bytes.now c.loop-byte.nodes.items c.loop-byte.byte-index c.in-Some.kind c.loop-byte-test.true (sym c.node_of.ensures ∙ c.in-Some.is) c.loop-byte.invariant)

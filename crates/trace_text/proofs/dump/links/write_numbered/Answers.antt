use Rattle.std.proofs.Common.{string_bytes}
use Rattle.trace_text.specs.Chosen.{chosen_link}
use Rattle.trace_text.proofs.DumpLines.{next_node}
use Rattle.trace_text.proofs.dump.links.write_numbered.Goals as goal

pub loop-node-preserved : goal.loop-node-preserved
loop-node-preserved c =
    next_node (chosen_link c.args.flow) c.args.nodes.now c.loop-node.node-index c.args.number c.node-item.result _ (string_bytes c.loop-node.out) (string_bytes c.write_own.new.out)
    c.loop-node-test.true c.node-item.is c.loop-node.invariant (cc c.in_ok-write_own.ensures)

use Rattle.std.proofs.Common.{string_bytes}
use Rattle.trace_text.proofs.AllLines.{all_chosen}
use Rattle.trace_text.proofs.dump.write_lines.Goals as goal

pub returns : goal.returns
returns c =
    all_chosen c.args.flow c.nodes.result.now c.nodes-2.result.now c.nodes-3.result.now c.args.net.now.state (string_bytes c.args.out.now) (string_bytes c.write_nodes.new.out) (string_bytes c.write_links.new.out) (string_bytes c.write_events.new.out)
    c.nodes.ensures.parts c.nodes-2.ensures.parts c.nodes-3.ensures.pending c.in_ok-write_nodes.ensures c.in_ok-write_links.ensures c.in_ok-write_events.ensures

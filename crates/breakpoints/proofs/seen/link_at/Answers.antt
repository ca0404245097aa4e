use Rattle.std.proofs.Common.{ℕ, sym, ap, ◌∙◌}
use Rattle.node_core.specs.Part.{PartState}
use Rattle.table_run.specs.State.{part_at}
use Rattle.breakpoints.specs.Seen.{link_among}
use Rattle.breakpoints.proofs.Elsewhere.{link_there, part_here, part_past}
use Rattle.breakpoints.proofs.seen.link_at.Goals as goal

pub returns-then-node-nodes : goal.returns-then-node-nodes
returns-then-node-nodes c = λ there.
    let s = c.args.net.now.state in
    let number = c.args.number in
    let here = part_here s c.nodes-nodes.result.now c.nodes-nodes.ensures.parts c.args.node c.index-nodes-node.result c.if-node-nodes.true c.index-nodes-node.is in
    c.link_among.ensures
    ∙ ap (link_among number) c.ports.ensures
    ∙ ap (λ (p : PartState). link_among number p.links) (sym here)
    ∙ ap (λ (n : ℕ). link_among number (part_at s n).links) there
    ∙ sym (link_there number s)

pub returns-else-node-nodes : goal.returns-else-node-nodes
returns-else-node-nodes c = λ there.
    let s = c.args.net.now.state in
    let number = c.args.number in
    let past = part_past s c.nodes-nodes.result.now c.nodes-nodes.ensures.parts c.args.node c.if-node-nodes.false in
    ap (λ (p : PartState). link_among number p.links) (sym past)
    ∙ ap (λ (n : ℕ). link_among number (part_at s n).links) there
    ∙ sym (link_there number s)

use Rattle.std.proofs.Common.{ℕ, sym, ap, ◌∙◌}
use Rattle.table_run.specs.State.{part_at}
use Rattle.breakpoints.specs.Seen.{value_for}
use Rattle.breakpoints.proofs.Elsewhere.{value_there, no_value, part_here, part_past}
use Rattle.breakpoints.proofs.seen.value_at.Goals as goal

pub returns-then-node-nodes : goal.returns-then-node-nodes
returns-then-node-nodes c = λ there.
    let s = c.args.net.now.state in
    let asked = c.args.asked in
    let here = part_here s c.nodes-nodes.result.now c.nodes-nodes.ensures.parts c.args.node c.index-nodes-node.result c.if-node-nodes.true c.index-nodes-node.is in
    c.value_for.ensures
    ∙ ap (value_for asked.value asked.of) (sym here)
    ∙ ap (λ (n : ℕ). value_for asked.value asked.of (part_at s n)) there
    ∙ sym (value_there asked s)

pub returns-else-node-nodes : goal.returns-else-node-nodes
returns-else-node-nodes c = λ there.
    let s = c.args.net.now.state in
    let asked = c.args.asked in
    let past = part_past s c.nodes-nodes.result.now c.nodes-nodes.ensures.parts c.args.node c.if-node-nodes.false in
    sym (no_value asked.value asked.of)
    ∙ ap (value_for asked.value asked.of) (sym past)
    ∙ ap (λ (n : ℕ). value_for asked.value asked.of (part_at s n)) there
    ∙ sym (value_there asked s)

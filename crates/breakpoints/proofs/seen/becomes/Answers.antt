use Rattle.std.proofs.Common.{◌==◌, sym, ap, subst, ◌∙◌, true≢false}
use Rattle.std.proofs.lemmas.Bool.{eqb-false}
use Rattle.std.specs.Prelude.{◌↔◌, ◌≢◌, IsTrue}
use Rattle.node_core.specs.TraceLine.{shown}
use Rattle.breakpoints.specs.declared.seen.SeenValue.{SeenValue}
use Rattle.breakpoints.specs.declared.values.Reading.{Reading}
use Rattle.breakpoints.specs.declared.seen.Sought.TheVariants.{Value}
use Rattle.breakpoints.specs.Seen.{node_of}
use Rattle.breakpoints.proofs.Elsewhere.{node_same, value_elsewhere}
use Rattle.breakpoints.proofs.seen.becomes.Goals as goal

pub returns-then-is_at : goal.returns-then-is_at
returns-then-is_at c = λ before is stepped was.
    let there = ap (λ (w : SeenValue). w.node) was ∙ node_same before c.args.net.now (shown c.args.line.now) (Value c.args.asked) is stepped in
    let value = ap (λ (w : SeenValue). w.value) was in
    subst (λ (p : Reading × Reading). IsTrue c.is_other.result ↔ (p.0 ≢ p.1)) (λ i. (value i, c.value_at.ensures there i)) c.is_other.ensures

pub returns-else-is_at : goal.returns-else-is_at
returns-else-is_at c = λ before is stepped was.
    let line = shown c.args.line.now in
    let other = eqb-false (node_of (Value c.args.asked) before.state) line.key.node (ap (λ (w : SeenValue). w.node == line.key.node) (sym was) ∙ sym c.is_at.ensures ∙ c.if-is_at.false) in
    (λ t. absurd (true≢false (sym t)), λ changed. absurd (changed (value_elsewhere before c.args.net.now line c.args.asked is stepped other)))

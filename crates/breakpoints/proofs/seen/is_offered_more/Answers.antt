use Rattle.std.proofs.Common.{ℕ, ◌==◌, Option, sym, ap, subst, ◌∙◌, true≢false}
use Rattle.std.proofs.lemmas.Bool.{eqb-false}
use Rattle.std.specs.Prelude.{◌↔◌, ◌≢◌, IsTrue}
use Rattle.node_core.specs.TraceLine.{shown}
use Rattle.breakpoints.specs.declared.seen.SeenLink.{SeenLink}
use Rattle.breakpoints.specs.declared.seen.Sought.TheVariants.{Link}
use Rattle.breakpoints.specs.Seen.{node_of}
use Rattle.breakpoints.proofs.Elsewhere.{node_same, offered_elsewhere}
use Rattle.breakpoints.proofs.seen.is_offered_more.Goals as goal

pub returns-then-is_at : goal.returns-then-is_at
returns-then-is_at c = λ before is stepped was.
    let there = ap (λ (w : SeenLink). w.node) was ∙ node_same before c.args.net.now (shown c.args.line.now) (Link c.args.number) is stepped in
    let offered = ap (λ (w : SeenLink). w.offered) was in
    subst (λ (p : Option ℕ × Option ℕ). IsTrue c.is_other_count.result ↔ (p.0 ≢ p.1)) (λ i. (offered i, c.offered_at.ensures there i)) c.is_other_count.ensures

pub returns-else-is_at : goal.returns-else-is_at
returns-else-is_at c = λ before is stepped was.
    let line = shown c.args.line.now in
    let other = eqb-false (node_of (Link c.args.number) before.state) line.key.node (ap (λ (w : SeenLink). w.node == line.key.node) (sym was) ∙ sym c.is_at.ensures ∙ c.if-is_at.false) in
    (λ t. absurd (true≢false (sym t)), λ changed. absurd (changed (offered_elsewhere before c.args.net.now line c.args.number is stepped other)))

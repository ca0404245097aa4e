use Rattle.std.proofs.Common.{◌≡◌, false, sym, ap, subst, ◌∙◌}
use Rattle.std.specs.Result.{OnOk}
use Rattle.table_run.specs.State.{State}
use Rattle.window_core.specs.declared.window.Window.TheInside.{Inside}
use Rattle.line_merge.specs.Batches.{BatchValue}
use Rattle.window_core.specs.Window.{WindowValue, IsFrom, HasGoneOn}
use Rattle.window_core.specs.WindowOf.{window_of, IsWindowInside}
use Rattle.window_core.proofs.Taken.{gone_taken, inside_taken, on_ok_then, not_ok, turned_inside}
use Rattle.window_core.proofs.window.Window.turn_over.Goals as goal
use Rattle.window_core.proofs.window.Window.turn_over.Goals.{then-is_ok, else-is_ok}

pub invariant_of-self-2 : goal.invariant_of-self-2
invariant_of-self-2 c =
    let w = c.self-2.inside in
    elim c.if-is_ok.branch [
      | then-is_ok b ↦ subst (λ (x : Inside). IsWindowInside record x { spare = c.if-is_ok.batch }) (sym b.self-inside-is) (inside_taken w b.swap.new.x c.if-is_ok.batch c.self-2.invariant)
      | else-is_ok b ↦ subst (λ (x : Inside). IsWindowInside record x { spare = c.if-is_ok.batch }) (sym b.self-inside-is) (inside_taken w w.taken c.if-is_ok.batch c.self-2.invariant)
    ]

pub returns-clause-run : goal.returns-clause-run
returns-clause-run c =
    let w = c.self-2.inside in
    let r = c.turn_into-turned.result in
    let new = c.turn_into-turned.new in
    elim c.if-is_ok.branch [
      | then-is_ok b ↦ subst (λ (x : Inside). OnOk r ((edge : State) → IsFrom edge c.args.self.now → HasGoneOn edge x.taken.lines (window_of record x { spare = c.if-is_ok.batch }))) (sym b.self-inside-is)
          (on_ok_then r c.turn_into-turned.ensures.run (λ on edge from.
          subst (λ (t : BatchValue). HasGoneOn edge t.lines record (window_of w) { taken = b.swap.new.x }) (sym b.swap.ensures.x_after)
          (subst (λ (v : WindowValue). HasGoneOn edge new.batch.lines record v { taken = b.swap.new.x }) (sym c.self-2.view_is) (gone_taken new.self b.swap.new.x edge new.batch.lines (on edge (subst (IsFrom edge) (sym c.self.view_is) from))))))
      | else-is_ok b ↦ not_ok _ r (sym c.is_ok.ensures.value ∙ b.if-is_ok.false)
    ]

pub returns-clause-inside : goal.returns-clause-inside
returns-clause-inside c =
    let w = c.self-2.inside in
    let new = c.turn_into-turned.new in
    let out : w.group_table.out ≡ false = ap (λ (v : WindowValue). v.out) c.self-2.view_is ∙ turned_inside (window_of c.self.inside) new.self new.batch c.turn_into-turned.result c.turn_into-turned.ensures.ok c.turn_into-turned.ensures.err (ap (λ (v : WindowValue). v.out) c.self.view_is ∙ c.requires) in
    elim c.if-is_ok.branch [ then-is_ok b ↦ ap (λ (x : Inside). x.group_table.out) b.self-inside-is ∙ out | else-is_ok b ↦ ap (λ (x : Inside). x.group_table.out) b.self-inside-is ∙ out ]

use Rattle.std.proofs.Common.{arith, ap, subst, ◌∙◌, sym, Option, Some, IfSome, is_ok}
use lib.ListN.{get_elem?}
use Rattle.std.specs.Mem.Slots.{slots_items}
use Rattle.line_merge.specs.Sheaves.{SheafValue}
use Rattle.window_text.specs.Parts.{IsRight}
use Rattle.window_text.specs.declared.formatter.TextFormatter.{TextFormatter}
use Rattle.window_text.proofs.ResultTables.{emptied, emptied_up_to, rest_is_right, put_behind}
use Rattle.window_text.proofs.result_table.ResultTable.clear.Goals as goal
use Rattle.window_text.proofs.result_table.ResultTable.clear.Goals.{then-word-ne-TAKEN+in-Some, else-word-ne-TAKEN+in-Some-1, else-word-ne-TAKEN+in-None-1}

pub loop-place-preserved : goal.loop-place-preserved
loop-place-preserved c =
    let was = c.loop-place.invariant in let took = c.take-laid.ensures.others in let place = c.loop-place.place in (
      took.3 ∙ was.0,
      took.0 ∙ was.1,
      took.2 ∙ was.2,
      (λ k past below. (emptied _ _ place took.1).1 k (omega (arith, past)) ∙ was.3 k (omega (arith, past)) (omega (arith, took.2, below))),
      emptied_up_to _ _ place took.1 was.4,
      elim c.if-word-ne-TAKEN.branch [
        | then-word-ne-TAKEN+in-Some w ↦
            let left : IfSome c.take-laid.result (IsRight c.self.inside.table.shared.key.value) =
            rest_is_right _ _ _ place c.word-word.result c.take-laid.result c.close-closed.ensures.values.2 (ap (λ l. get_elem? (slots_items l) place) (sym was.0) ∙ c.word-word.ensures)
            (ap (λ l. get_elem? l place) (sym was.1) ∙ c.take-laid.ensures.value) w.if-word-ne-TAKEN.true in
            let right : IfSome (Some w.in-Some.formatter) (IsRight c.self.inside.table.shared.key.value) = subst (λ (x : Option TextFormatter). IfSome x (IsRight c.self.inside.table.shared.key.value)) w.in-Some.is left in
            rw w.formatters-is (put_behind _ (is_ok w.push.result) _ _ w.in-Some.formatter w.push.ensures.items was.5 (subst (λ (s : SheafValue). IsRight s w.in-Some.formatter) (ap (λ d. d.sheaf) c.self.view_is) right))
        | else-word-ne-TAKEN+in-Some-1 w ↦ rw w.formatters-is was.5
        | else-word-ne-TAKEN+in-None-1 w ↦ rw w.formatters-is was.5
      ],
    )

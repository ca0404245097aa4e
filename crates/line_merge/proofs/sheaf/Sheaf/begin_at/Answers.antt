use Rattle.std.proofs.Common.{◌≡◌, ◌+◌, ℕ, List, length, sym, ap, subst, ◌∙◌, arith}
use Rattle.std.proofs.lemmas.List.{with_items_is}
use Rattle.std.specs.Vec.{with_items}
use Rattle.node_core.specs.TraceLine.{TraceLine}
use Rattle.line_merge.specs.Ahead.{IsAhead}
use Rattle.line_merge.specs.Merged.{AreApart, all_of, rests}
use Rattle.line_merge.specs.Sheaves.{SheafValue, CursorValue, AreCuts}
use Rattle.line_merge.proofs.Cuts.{stands_at_cut}
use Rattle.line_merge.proofs.sheaf.Sheaf.begin_at.Goals as goal

pub cut-cursor-inside-requires-clause-few : goal.cut-cursor-inside-requires-clause-few
cut-cursor-inside-requires-clause-few c =
    let same = ap (λ ls. length (all_of ls)) c.deref.ensures.value in
    let few = c.self.invariant.few_lines in
    let count = c.self.invariant.count in
    omega (arith, same, few, count)

pub returns-clause-at : goal.returns-clause-at
returns-clause-at c =
    let s = c.args.self.now in
    let lists : c.self.inside.lists.items ≡ s.lists = ap (λ (x : SheafValue). x.lists) c.self.view_is in
    let zeros = c.fill.new.self in
    let made = c.cut-cursor-inside.new.nexts in
    let kept = with_items zeros made in
    let kept_is : kept.items ≡ made = with_items_is zeros made (c.cut-cursor-inside.auto.nexts ∙ ap length c.deref_mut.ensures.value ∙ sym zeros.ok.0) in
    let dates = c.look_ahead.new.moments in
    let dated = with_items c.cursor.inside.moments dates in
    let dated_is : dated.items ≡ dates = with_items_is c.cursor.inside.moments dates (c.look_ahead.auto.moments ∙ ap length c.deref_mut-2.ensures.value ∙ sym c.cursor.inside.moments.ok.0) in
    let cursor : CursorValue = record { at = c.cut-cursor-inside.result; nexts = kept.items; moments = dated.items; ranks = c.look_ahead.new.tournament } in
    let apart : AreApart s.lists = subst AreApart lists c.self.invariant.apart in
    let here : c.deref.result.now ≡ s.lists = c.deref.ensures.value ∙ lists in
    let cuts : AreCuts c.args.moment s.lists kept.items = subst (λ ls. AreCuts c.args.moment ls kept.items) here (subst (AreCuts c.args.moment c.deref.result.now) (sym kept_is) c.cut-cursor-inside.ensures.cuts) in
    let count : cursor.at + length (all_of (rests s.lists kept.items)) ≡ length (all_of s.lists) =
    (λ i. cursor.at + length (all_of (rests (sym here i) (kept_is i)))) ∙ c.cut-cursor-inside.ensures.count ∙ ap (λ ls. length (all_of ls)) here in
    let ahead : IsAhead s.lists kept.items dated.items cursor.ranks =
    subst (λ (ls : List (List TraceLine)). IsAhead ls kept.items dated.items cursor.ranks) (c.deref-2.ensures.value ∙ lists)
    (subst (λ (ns : List ℕ). IsAhead c.deref-2.result.now ns dated.items cursor.ranks) c.deref-3.ensures.value
    (subst (λ (ms : List ℕ). IsAhead c.deref-2.result.now c.deref-3.result.now ms cursor.ranks) (sym dated_is) c.look_ahead.ensures)) in
    (stands_at_cut s c.args.moment cursor apart cuts count ahead).0

pub returns-clause-cut : goal.returns-clause-cut
returns-clause-cut c =
    let s = c.args.self.now in
    let lists : c.self.inside.lists.items ≡ s.lists = ap (λ (x : SheafValue). x.lists) c.self.view_is in
    let zeros = c.fill.new.self in
    let made = c.cut-cursor-inside.new.nexts in
    let kept = with_items zeros made in
    let kept_is : kept.items ≡ made = with_items_is zeros made (c.cut-cursor-inside.auto.nexts ∙ ap length c.deref_mut.ensures.value ∙ sym zeros.ok.0) in
    let dates = c.look_ahead.new.moments in
    let dated = with_items c.cursor.inside.moments dates in
    let dated_is : dated.items ≡ dates = with_items_is c.cursor.inside.moments dates (c.look_ahead.auto.moments ∙ ap length c.deref_mut-2.ensures.value ∙ sym c.cursor.inside.moments.ok.0) in
    let cursor : CursorValue = record { at = c.cut-cursor-inside.result; nexts = kept.items; moments = dated.items; ranks = c.look_ahead.new.tournament } in
    let apart : AreApart s.lists = subst AreApart lists c.self.invariant.apart in
    let here : c.deref.result.now ≡ s.lists = c.deref.ensures.value ∙ lists in
    let cuts : AreCuts c.args.moment s.lists kept.items = subst (λ ls. AreCuts c.args.moment ls kept.items) here (subst (AreCuts c.args.moment c.deref.result.now) (sym kept_is) c.cut-cursor-inside.ensures.cuts) in
    let count : cursor.at + length (all_of (rests s.lists kept.items)) ≡ length (all_of s.lists) =
    (λ i. cursor.at + length (all_of (rests (sym here i) (kept_is i)))) ∙ c.cut-cursor-inside.ensures.count ∙ ap (λ ls. length (all_of ls)) here in
    let ahead : IsAhead s.lists kept.items dated.items cursor.ranks =
    subst (λ (ls : List (List TraceLine)). IsAhead ls kept.items dated.items cursor.ranks) (c.deref-2.ensures.value ∙ lists)
    (subst (λ (ns : List ℕ). IsAhead c.deref-2.result.now ns dated.items cursor.ranks) c.deref-3.ensures.value
    (subst (λ (ms : List ℕ). IsAhead c.deref-2.result.now c.deref-3.result.now ms cursor.ranks) (sym dated_is) c.look_ahead.ensures)) in
    (stands_at_cut s c.args.moment cursor apart cuts count ahead).1

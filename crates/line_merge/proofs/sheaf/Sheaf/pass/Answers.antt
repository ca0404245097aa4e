use Rattle.std.proofs.Common.{◌≡◌, ◌+◌, ◌∷◌, ℕ, List, length, get_or, sym, ap, subst, ◌∙◌, arith}
use Rattle.std.proofs.lemmas.List.{with_items_is}
use Rattle.std.specs.Vec.{with_items}
use Rattle.node_core.specs.TraceLine.{TraceLine}
use Rattle.line_merge.specs.Merged.{AreApart, all_of, line_in, lines_of, rests}
use Rattle.line_merge.specs.Ahead.{IsAhead}
use Rattle.line_merge.specs.Sheaves.{SheafValue, CursorValue}
use Rattle.window_law.specs.Windows.{in_order}
use Rattle.line_merge.proofs.Ahead.{taken_ahead}
use Rattle.line_merge.proofs.Rests.{IsTaken}
use Rattle.line_merge.proofs.Sheaves.{counted, one_behind}
use Rattle.line_merge.proofs.sheaf.Sheaf.pass.Goals as goal

pub prove-unreachable-requires : goal.prove-unreachable-requires
prove-unreachable-requires c =
    let s = c.args.self.now in
    let lists : c.self.inside.lists.items ≡ s.lists = ap (λ (x : SheafValue). x.lists) c.self.view_is in
    let apart : AreApart s.lists = subst AreApart lists c.self.invariant.apart in
    let taken : IsTaken s.lists c.args.cursor.now.nexts c.args.list = taken_ahead s.lists c.args.cursor.now.nexts c.args.list c.requires.at.next.size apart c.requires.next in
    let all = counted c.self.inside c.self.invariant s c.self.view_is in
    let at : c.cursor.inside.at ≡ c.args.cursor.now.at = ap (λ (x : CursorValue). x.at) c.cursor.view_is in
    let left = c.requires.at.count in
    let fewer = taken.fewer in
    let past = c.if-prove.true in
    omega (arith, all, at, left, fewer, past)

pub returns-clause-at : goal.returns-clause-at
returns-clause-at c =
    let s = c.args.self.now in
    let was = c.args.cursor.now in
    let made = c.pass.new in
    let all = c.deref.result.now in
    let lists : all ≡ s.lists = c.deref.ensures.value ∙ ap (λ (x : SheafValue). x.lists) c.self.view_is in
    let nexts : c.deref_mut.result.now ≡ was.nexts = c.deref_mut.ensures.value ∙ ap (λ (x : CursorValue). x.nexts) c.cursor.view_is in
    let kept = with_items c.cursor.inside.nexts made.nexts in
    let kept_is : kept.items ≡ made.nexts = with_items_is c.cursor.inside.nexts made.nexts (c.pass.auto.nexts ∙ ap length c.deref_mut.ensures.value ∙ sym c.cursor.inside.nexts.ok.0) in
    let dated = with_items c.cursor.inside.moments made.moments in
    let dated_is : dated.items ≡ made.moments = with_items_is c.cursor.inside.moments made.moments (c.pass.auto.moments ∙ ap length c.deref_mut-2.ensures.value ∙ sym c.cursor.inside.moments.ok.0) in
    let now : CursorValue = record { at = c.cursor.inside.at + 1; nexts = kept.items; moments = dated.items; ranks = made.tournament } in
    let line = line_in (lines_of all c.args.list) (get_or c.deref_mut.result.now c.args.list 0) in
    let at : now.at ≡ was.at + 1 = ap (λ (x : CursorValue). x.at + 1) c.cursor.view_is in
    let next : IsAhead s.lists now.nexts now.moments now.ranks =
    subst (λ (ls : List (List TraceLine)). IsAhead ls now.nexts now.moments now.ranks) lists (subst (λ (ns : List ℕ). IsAhead all ns now.moments now.ranks) (sym kept_is) (subst (λ (ms : List ℕ). IsAhead all made.nexts ms now.ranks) (sym dated_is) c.pass.ensures.ahead)) in
    let order : in_order (all_of (rests s.lists was.nexts)) ≡ line ∷ in_order (all_of (rests s.lists now.nexts)) =
    (λ i. in_order (all_of (rests (sym lists i) (sym nexts i)))) ∙ c.pass.ensures.order ∙ (λ i. line ∷ in_order (all_of (rests (lists i) (sym kept_is i)))) in
    let fewer : length (all_of (rests s.lists was.nexts)) ≡ length (all_of (rests s.lists now.nexts)) + 1 =
    (λ i. length (all_of (rests (sym lists i) (sym nexts i)))) ∙ c.pass.ensures.fewer ∙ (λ i. length (all_of (rests (lists i) (sym kept_is i))) + 1) in
    one_behind s was now line c.requires.at at next order fewer

use Rattle.std.proofs.Common.{◌≡◌, ◌≤◌, ◌<◌, List, false, length, cond, sym, ap, subst, ◌∙◌, arith}
use Rattle.node_group.specs.Group.{GroupValue, state_of}
use Rattle.window_core.specs.GroupTables.{GroupTableValue, next_of_group}
use Rattle.window_core.specs.Window.{value_at}
use Rattle.window_core.proofs.GroupTables.{next_at, none_due}
use Rattle.window_core.proofs.window.group_table.GroupTable.run.Goals as goal

pub returns-then-index-until-clause-done : goal.returns-then-index-until-clause-done
returns-then-index-until-clause-done c =
    let w = c.self.inside in
    let i = c.args.group in
    let out : w.out ≡ false = ap (λ (x : GroupTableValue). x.out) c.self.view_is ∙ c.requires.inside in
    let in_is : w.group_states.items ≡ c.args.self.now.groups = ap (λ b. cond b w.lent.value.items w.group_states.items) (sym out) ∙ ap (λ (x : GroupTableValue). x.groups) c.self.view_is in
    let under : i < length w.group_states.items = subst (λ (gs : List GroupValue). i < length gs) (sym in_is) c.requires.within in
    let next : c.index.result.now ≡ next_of_group (state_of (value_at w.group_states.items i)) = next_at w.group_states.items i w.nexts.items c.index.result.now (c.self.invariant.nexts out) under c.index.ensures in
    let late = c.if-index-until.true in
    none_due c.args.until (state_of (value_at c.args.self.now.groups i)) (subst (λ (gs : List GroupValue). c.args.until ≤ next_of_group (state_of (value_at gs i))) in_is (omega (arith, late, next)))

use Rattle.std.proofs.Common.{◌≡◌, List, false, length, sym, ap, ◌∙◌}
use Rattle.std.proofs.lemmas.List.{with_items_is}
use Rattle.std.specs.Vec.{with_items}
use Rattle.node_group.specs.Group.{GroupValue}
use Rattle.window_core.specs.GroupTables.{GroupTableValue, nexts_of}
use Rattle.window_core.specs.Window.{states_of}
use Rattle.window_law.specs.Windows.{all_lines}
use Rattle.window_core.proofs.GroupTables.{with_groups}
use Rattle.window_core.proofs.window.group_table.GroupTable.reclaim.Goals as goal

pub invariant_of-self : goal.invariant_of-self
invariant_of-self c =
    let w = c.self.inside in
    let out : w.out ≡ false = ap (λ (x : GroupTableValue). x.out) c.self.view_is ∙ c.requires in
    let is = c.self.invariant in
    let now = with_items w.group_states c.give_back.new.group_states in
    let kept : c.give_back.new.group_states ≡ w.group_states.items = c.give_back.ensures.group_states ∙ c.deref_mut.ensures.value in
    let items : now.items ≡ w.group_states.items = with_items_is w.group_states c.give_back.new.group_states (ap length kept ∙ sym w.group_states.ok.0) ∙ kept in
    with_groups w now w.nexts w.least w.reported is out (ap length items)
    (is.nexts out ∙ ap (λ (gs : List GroupValue). nexts_of (states_of gs)) (sym items)) is.least (is.reported out ∙ ap (λ (gs : List GroupValue). length (all_lines (states_of gs))) (sym items))

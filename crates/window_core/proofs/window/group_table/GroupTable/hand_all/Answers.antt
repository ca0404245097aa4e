use Rattle.std.proofs.Common.{None, ◌≡◌, List, false, length, sym, ap, ◌∙◌}
use Rattle.std.proofs.lemmas.List.{with_items_is}
use Rattle.std.specs.Vec.{with_items}
use Rattle.node_group.specs.Group.{GroupValue}
use Rattle.window_core.specs.GroupTables.{GroupTableValue, nexts_of}
use Rattle.window_core.specs.Window.{states_of}
use Rattle.window_law.specs.Windows.{all_lines}
use Rattle.window_core.proofs.GroupTables.{with_groups, same_reported}
use Rattle.window_core.proofs.window.group_table.GroupTable.hand_all.Goals as goal

pub invariant_of-self : goal.invariant_of-self
invariant_of-self c =
    let w = c.self.inside in
    let out : w.out ≡ false = ap (λ (x : GroupTableValue). x.out) c.self.view_is ∙ c.requires.inside in
    let is = c.self.invariant in
    let old = c.deref_mut.result.now in
    let old_is : old ≡ w.group_states.items = c.deref_mut.ensures.value in
    let after = c.hand_all.new.group_states in
    let handed = c.hand_all.ensures.handed in
    let now = with_items w.group_states after in
    let nexts = with_items w.nexts c.hand_all.new.nexts in
    let size : length after ≡ length w.group_states.items = handed.size ∙ ap length old_is in
    let items : now.items ≡ after = with_items_is w.group_states after (size ∙ sym w.group_states.ok.0) in
    let read : nexts.items ≡ c.hand_all.new.nexts = with_items_is w.nexts c.hand_all.new.nexts (c.hand_all.auto.nexts ∙ ap length c.deref_mut-2.ensures.value ∙ sym w.nexts.ok.0) in
    let reported = is.reported out ∙ ap (λ (gs : List GroupValue). length (all_lines (states_of gs))) (sym old_is) ∙ ap length (sym (same_reported old after handed.size (λ h. ap (λ (g : GroupValue). g.lines) (handed.same h)))) in
    with_groups w now nexts None w.reported is out (ap length items ∙ size)
    (read ∙ c.hand_all.ensures.nexts ∙ ap (λ (gs : List GroupValue). nexts_of (states_of gs)) (sym items))
    tt
    (reported ∙ ap (λ (gs : List GroupValue). length (all_lines (states_of gs))) (sym items))

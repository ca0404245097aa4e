use Rattle.std.proofs.Common.{◌≡◌, ◌+◌, List, false, length, map, sym, ap, ◌∙◌}
use Rattle.std.proofs.lemmas.List.{length-map, with_items_is}
use Rattle.std.specs.Vec.{with_items}
use Rattle.node_group.specs.Group.{GroupValue}
use Rattle.window_core.specs.GroupTables.{GroupTableValue, nexts_of}
use Rattle.window_core.specs.Window.{states_of}
use Rattle.window_law.specs.Windows.{all_lines}
use Rattle.window_core.proofs.GroupTables.{with_groups, nexts_cleared, none_reported}
use Rattle.window_core.proofs.TurnReady.{cleared}
use Rattle.window_core.proofs.window.group_table.GroupTable.gather.Goals as goal

pub invariant_of-self-2 : goal.invariant_of-self-2
invariant_of-self-2 c =
    let w = c.self.inside in
    let out : w.out ≡ false = ap (λ (x : GroupTableValue). x.out) c.self.view_is ∙ c.requires.inside in
    let is = c.self.invariant in
    let n = c.args.position + c.args.count in
    let now = with_items w.group_states c.gather.new.group_states in
    let given : c.gather.new.group_states ≡ map (cleared n) w.group_states.items = c.in_ok-gather.ensures.group_states ∙ ap (map (cleared n)) c.deref_mut.ensures.value in
    let size : length c.gather.new.group_states ≡ length w.group_states.items = ap length given ∙ length-map w.group_states.items (cleared n) in
    let items : now.items ≡ map (cleared n) w.group_states.items = with_items_is w.group_states c.gather.new.group_states (size ∙ sym w.group_states.ok.0) ∙ given in
    with_groups w now w.nexts w.least 0 is out (ap length items ∙ length-map w.group_states.items (cleared n))
    (is.nexts out ∙ sym (ap (λ (gs : List GroupValue). nexts_of (states_of gs)) items ∙ nexts_cleared n w.group_states.items))
    is.least
    (sym (ap (λ (gs : List GroupValue). length (all_lines (states_of gs))) items ∙ ap length (none_reported n w.group_states.items)))

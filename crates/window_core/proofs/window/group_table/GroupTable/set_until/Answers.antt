use Rattle.std.proofs.Common.{◌≡◌, List, false, length, map, sym, ap, ◌∙◌}
use Rattle.std.proofs.lemmas.List.{length-map, with_items_is}
use Rattle.std.specs.Vec.{with_items}
use Rattle.window_law.specs.Groups.{GroupState}
use Rattle.window_core.specs.GroupTables.{GroupTableValue, nexts_of}
use Rattle.window_core.specs.Window.{states_of}
use Rattle.window_law.specs.Windows.{all_lines}
use Rattle.window_core.proofs.GroupTables.{with_groups}
use Rattle.window_core.proofs.Windowed.{bounded, same_states}
use Rattle.window_core.proofs.window.group_table.GroupTable.set_until.Goals as goal

pub invariant_of-self : goal.invariant_of-self
invariant_of-self c =
    let w = c.self.inside in
    let out : w.out ≡ false = ap (λ (x : GroupTableValue). x.out) c.self.view_is ∙ c.requires in
    let is = c.self.invariant in
    let now = with_items w.group_states c.set_until.new.group_states in
    let set : c.set_until.new.group_states ≡ map (bounded c.args.until) w.group_states.items = c.set_until.ensures ∙ ap (map (bounded c.args.until)) c.deref_mut.ensures.value in
    let size : length c.set_until.new.group_states ≡ length w.group_states.items = ap length set ∙ length-map w.group_states.items (bounded c.args.until) in
    let items : now.items ≡ map (bounded c.args.until) w.group_states.items = with_items_is w.group_states c.set_until.new.group_states (size ∙ sym w.group_states.ok.0) ∙ set in
    let same : states_of w.group_states.items ≡ states_of now.items = sym (ap states_of items ∙ same_states c.args.until w.group_states.items) in
    with_groups w now w.nexts w.least w.reported is out (ap length items ∙ length-map w.group_states.items (bounded c.args.until))
    (is.nexts out ∙ ap nexts_of same) is.least (is.reported out ∙ ap (λ (gs : List GroupState). length (all_lines gs)) same)

use Rattle.std.proofs.Common.{◌≡◌, ◌<◌, ◌+◌, List, length, drop, get_or, ap, subst, ◌∙◌, arith, below_more}
use Rattle.std.proofs.lemmas.List.{get_or_read, get_or_default, at_drop_more}
use Rattle.node_group.specs.Group.{GroupValue, IsGroup}
use Rattle.window_core.specs.Window.{no_value, value_at, states_of}
use Rattle.window_law.specs.Windows.{all_lines}
use Rattle.window_core.proofs.Readings.{reported_more}
use Rattle.window_core.proofs.window.reading.reported.Goals as goal

pub loop-group_state-preserved : goal.loop-group_state-preserved
loop-group_state-preserved c =
    let group_states = c.args.group_states.now in
    let at = c.loop-group_state.group_state-index in
    let under : at < length group_states = c.loop-group_state-test.true in
    let read : c.group_state-item.result ≡ value_at group_states at = get_or_read group_states at c.group_state-item.result under c.group_state-item.is no_value in
    let all = λ (gs : List GroupValue). length (all_lines (states_of gs)) in
    let one : all (drop at group_states) ≡ length (value_at group_states at).lines + all (drop (at + 1) group_states) = at_drop_more all group_states at no_value under ∙ reported_more (value_at group_states at) (drop (at + 1) group_states) in
    let reported : c.reported_by-count.result ≡ length (value_at group_states at).lines = c.reported_by-count.ensures.count ∙ ap (λ (g : GroupValue). length g.lines) read in
    let together = c.loop-group_state.invariant.together in
    let few = c.loop-group_state.invariant.few in
    let more = c.reported_by-count.ensures.few in
    record {
      together = omega (arith, together, reported, one);
      few = omega (arith, few, more);
      are_groups = λ k d below. below_more (λ j. (e : GroupValue) → IsGroup (get_or group_states j e)) at (λ j b e. c.loop-group_state.invariant.are_groups j e b) (λ e. subst IsGroup (read ∙ get_or_default group_states at no_value e under) c.reported_by-count.ensures.is_group) k below d;
    }

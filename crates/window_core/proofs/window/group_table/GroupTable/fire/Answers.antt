use Rattle.std.proofs.Common.{◌≡◌, ◌<◌, ◌+◌, ◌-◌, List, false, length, cond, sym, ap, subst, ◌∙◌, arith}
use Rattle.std.proofs.lemmas.List.{get_or_read}
use Rattle.node_group.specs.Group.{GroupValue}
use Rattle.window_core.specs.GroupTables.{GroupTableValue}
use Rattle.window_core.specs.Window.{no_value, value_at}
use Rattle.window_core.proofs.GroupTables.{after_events, reported_upto}
use Rattle.window_core.proofs.window.group_table.GroupTable.fire.Goals as goal

pub overflow_sub-self : goal.overflow_sub-self
overflow_sub-self c =
    let w = c.self.inside in
    let i = c.args.group in
    let g = c.fire_below-fired.new.self in
    let out : w.out ≡ false = ap (λ (x : GroupTableValue). x.out) c.self.view_is ∙ c.requires.inside in
    let in_is : w.group_states.items ≡ c.args.self.now.groups = ap (λ b. cond b w.lent.value.items w.group_states.items) (sym out) ∙ ap (λ (x : GroupTableValue). x.groups) c.self.view_is in
    let under : i < length w.group_states.items = subst (λ (gs : List GroupValue). i < length gs) (sym in_is) c.requires.within in
    let read : c.index_mut-group_state.result.now ≡ value_at w.group_states.items i = get_or_read w.group_states.items i c.index_mut-group_state.result.now under c.index_mut-group_state.ensures.value no_value in
    let before : c.reported-before.result ≡ length (value_at w.group_states.items i).lines = c.reported-before.ensures.count ∙ ap (λ (x : GroupValue). length x.lines) read in
    let reported = c.self.invariant.reported out in
    let upto = reported_upto w.group_states.items i under in
    omega (arith, reported, upto, before)

pub invariant_of-self : goal.invariant_of-self
invariant_of-self c =
    let w = c.self.inside in
    let i = c.args.group in
    let g = c.fire_below-fired.new.self in
    let out : w.out ≡ false = ap (λ (x : GroupTableValue). x.out) c.self.view_is ∙ c.requires.inside in
    let in_is : w.group_states.items ≡ c.args.self.now.groups = ap (λ b. cond b w.lent.value.items w.group_states.items) (sym out) ∙ ap (λ (x : GroupTableValue). x.groups) c.self.view_is in
    let under : i < length w.group_states.items = subst (λ (gs : List GroupValue). i < length gs) (sym in_is) c.requires.within in
    let read : c.index_mut-group_state.result.now ≡ value_at w.group_states.items i = get_or_read w.group_states.items i c.index_mut-group_state.result.now under c.index_mut-group_state.ensures.value no_value in
    let before : c.reported-before.result ≡ length (value_at w.group_states.items i).lines = c.reported-before.ensures.count ∙ ap (λ (x : GroupValue). length x.lines) read in
    let reported = c.self.invariant.reported out in
    let upto = reported_upto w.group_states.items i under in
    let now = c.reported_by.ensures.count in
    after_events w i g c.next_of.result (w.reported + c.reported_by.result - c.reported-before.result) c.self.invariant out under c.next_of.ensures (omega (arith, reported, upto, before, now))

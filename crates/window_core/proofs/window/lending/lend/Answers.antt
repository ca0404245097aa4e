use Rattle.std.proofs.Common.{◌≡◌, ◌++◌, [], ◌∷◌, List, length, length-append, append_assoc, get_or, reverse, refl, sym, ap, subst, ◌∙◌, arith}
use Rattle.std.proofs.lemmas.List.{get_or_append_left, get_or_push, reverse-append}
use Rattle.std.specs.Option.{option_to_list}
use Rattle.node_group.specs.Group.{GroupValue, IsOnRun}
use Rattle.window_core.proofs.window.lending.lend.Goals as goal

behind : (a : List GroupValue) (g : GroupValue) (c : List GroupValue) → (a ++ g ∷ []) ++ c ≡ a ++ g ∷ c
behind a g c = rw append_assoc refl

pub new-requires : goal.new-requires
new-requires c =
    let before = c.pop.new.self.items in
    let more = c.pop.ensures.items ∙ ap (λ o. before ++ option_to_list o) c.in-Some.is in
    let longer = length-append before (c.in-Some.group_state ∷ []) in
    let same = ap length more in
    subst IsOnRun (ap (λ xs. get_or xs (length before) c.in-Some.group_state) more ∙ get_or_push before c.in-Some.group_state c.in-Some.group_state (length before) refl)
    (c.loop-group_state.invariant.on_run (length before) c.in-Some.group_state (omega (arith, longer, same)))

pub loop-group_state-preserved : goal.loop-group_state-preserved
loop-group_state-preserved c =
    let inv = c.loop-group_state.invariant in
    let before = c.pop.new.self.items in
    let more = c.pop.ensures.items ∙ ap (λ o. before ++ option_to_list o) c.in-Some.is in
    let longer = length-append before (c.in-Some.group_state ∷ []) in
    let same = ap length more in
    let grown = ap length c.push_reserved.ensures.items ∙ length-append c.loop-group_state.groups.items (c.new.result ∷ []) in
    let capacity = c.push_reserved.ensures.capacity in
    let room = inv.room in
    record {
      together =
          ap (λ (gs : List GroupValue). before ++ reverse gs) (c.push_reserved.ensures.items ∙ ap (λ (g : GroupValue). c.loop-group_state.groups.items ++ g ∷ []) c.new.ensures)
          ∙ ap (λ (gs : List GroupValue). before ++ gs) (reverse-append c.loop-group_state.groups.items (c.in-Some.group_state ∷ []))
          ∙ sym (behind before c.in-Some.group_state (reverse c.loop-group_state.groups.items))
          ∙ ap (λ (gs : List GroupValue). gs ++ reverse c.loop-group_state.groups.items) (sym more)
          ∙ inv.together;
      on_run = λ k d under. subst IsOnRun (ap (λ xs. get_or xs k d) more ∙ get_or_append_left before (c.in-Some.group_state ∷ []) d k under) (inv.on_run k d (omega (arith, under, longer, same)));
      room = omega (arith, longer, same, grown, capacity, room);
      kept = c.pop.ensures.capacity ∙ inv.kept;
    }

use Rattle.std.proofs.Common.{◌≡◌, ◌<◌, ◌++◌, ◌∷◌, [], List, length, map, take, sym, ap, ◌∙◌, arith}
use Rattle.std.proofs.lemmas.List.{get_or_read, take_more, take_more_set, map-append, length-set}
use Rattle.node_core.specs.TraceLine.{TraceLine}
use Rattle.node_group.specs.Group.{GroupValue}
use Rattle.window_core.specs.Window.{no_value, value_at}
use Rattle.window_core.proofs.Each.{one_changed}
use Rattle.window_core.proofs.collecting.take_lines.Goals as goal

pub loop-at-preserved : goal.loop-at-preserved
loop-at-preserved c =
    let at = c.loop-at.at in
    let old = c.args.group_states.now in
    let under : at < length c.loop-at.group_states = (let same = c.loop-at.auto.group_states in let below = c.loop-at-test.true in omega (arith, same, below)) in
    let here : at < length old = c.loop-at-test.true in
    let listed : at < length c.loop-at.lists = (let same = c.loop-at.invariant.size in omega (arith, same, here)) in
    let read : c.index-group_states-at.result ≡ value_at c.loop-at.group_states at = get_or_read c.loop-at.group_states at c.index-group_states-at.result under c.index-group_states-at.is no_value in
    let before : c.index-group_states-at.result ≡ value_at old at = read ∙ c.loop-at.invariant.group_states.rest at (omega arith) in
    let lines : c.take_from.new.lines ≡ (value_at old at).lines = c.take_from.ensures.lines ∙ ap (λ (g : GroupValue). g.lines) (sym c.index-group_states-at.is ∙ before) in
    record {
      lists =
          take_more_set c.loop-at.lists at c.take_from.new.lines listed
          ∙ ap (λ (ls : List (List TraceLine)). ls ++ c.take_from.new.lines ∷ []) c.loop-at.invariant.lists
          ∙ ap (λ (ls : List TraceLine). map (λ (g : GroupValue). g.lines) (take at old) ++ ls ∷ []) lines
          ∙ sym (map-append (λ (g : GroupValue). g.lines) (take at old) (value_at old at ∷ []))
          ∙ ap (map (λ (g : GroupValue). g.lines)) (sym (take_more old at no_value here));
      size = length-set c.loop-at.lists at c.take_from.new.lines ∙ c.loop-at.invariant.size;
      group_states = one_changed no_value (λ (g : GroupValue). record g { lines = []; position = c.args.position }) old c.loop-at.group_states at c.take_from.new.group_state c.loop-at.invariant.group_states under (c.take_from.ensures.group_state ∙ ap (λ (g : GroupValue). record g { lines = []; position = c.args.position }) (sym c.index-group_states-at.is ∙ read));
    }

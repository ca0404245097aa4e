use Rattle.std.proofs.Common.{◌≡◌, ◌<◌, length, sym, ap, ◌∙◌, arith}
use Rattle.std.proofs.lemmas.List.{get_or_read}
use Rattle.node_group.specs.Group.{GroupValue}
use Rattle.window_core.specs.Window.{no_value, value_at}
use Rattle.window_core.proofs.Each.{one_changed}
use Rattle.window_core.proofs.window.set_until.Goals as goal

pub loop-group_state-preserved : goal.loop-group_state-preserved
loop-group_state-preserved c =
    let under : c.loop-group_state.group_state-index < length c.loop-group_state.group_states = let same = c.loop-group_state.auto.group_states in let below = c.loop-group_state-test.true in omega (arith, same, below) in
    let read : c.group_state-item.result ≡ value_at c.loop-group_state.group_states c.loop-group_state.group_state-index = get_or_read c.loop-group_state.group_states c.loop-group_state.group_state-index c.group_state-item.result under c.group_state-item.is no_value in
    one_changed no_value (λ (g : GroupValue). record g { until = c.args.until }) c.args.group_states.now c.loop-group_state.group_states c.loop-group_state.group_state-index c.set_until.new.self c.loop-group_state.invariant under (c.set_until.ensures ∙ ap (λ (g : GroupValue). record g { until = c.args.until }) (sym c.group_state-item.is ∙ read))

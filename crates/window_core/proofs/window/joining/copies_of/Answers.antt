use Rattle.std.proofs.Common.{◌≡◌, ◌<◌, ◌+◌, length, sym, ap, subst, ◌∙◌}
use Rattle.std.proofs.lemmas.List.{get_or_read}
use Rattle.node_group.specs.Group.{GroupValue, member}
use Rattle.window_core.specs.Together.{group_with, AreTogether}
use Rattle.window_core.specs.Window.{no_value}
use Rattle.window_core.proofs.Gathering.{one_more}
use Rattle.window_core.proofs.window.joining.copies_of.Goals as goal

pub loop-number-preserved : goal.loop-number-preserved
loop-number-preserved c =
    let entries = c.args.partition.now in
    let group_states = c.args.group_states.now in
    let n = c.loop-number.number in
    let x = c.in_ok-copy_of.field-0 in
    let within : c.group.result < length group_states = subst (λ g. g < length group_states) (sym c.group.ensures) (c.requires.few n) in
    let read : c.index-group_states-group.result ≡ group_with entries group_states n = get_or_read group_states c.group.result c.index-group_states-group.result within c.index-group_states-group.is no_value ∙ ap (λ g. Rattle.window_core.specs.Window.value_at group_states g) c.group.ensures in
    let is : x ≡ member (group_with entries group_states n) n = c.in_ok-copy_of.ensures ∙ ap (λ (g : GroupValue). member g n) read in
    subst (AreTogether entries group_states (n + 1)) (sym c.in_ok-push.ensures.items) (one_more entries group_states n c.loop-number.nodes.items x c.loop-number.invariant is)

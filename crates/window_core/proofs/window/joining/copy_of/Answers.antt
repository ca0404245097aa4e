use Rattle.std.proofs.Common.{◌≡◌, IfOk, get_or, sym, ap, subst, ◌∙◌, Some, None}
use Rattle.std.specs.Option.{option_copied}
use Rattle.node_core.specs.Node.{NodeState}
use Rattle.node_group.proofs.AtSeats.{seat_is}
use Rattle.window_core.proofs.window.joining.copy_of.Goals as goal

pub returns : goal.returns
returns c =
    let g = c.args.group_state.now in
    let seat : get_or g.seats c.args.place None ≡ Some c.unwrap-node.result.now = sym c.node.ensures ∙ ap option_copied c.unwrap-node.ensures in
    let here = seat_is g.seats c.args.place c.requires.within c.unwrap-node.result.now seat in
    subst (λ (n : NodeState). IfOk c.copy.result (λ node. node ≡ n)) here c.copy.ensures

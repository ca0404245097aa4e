use Rattle.std.proofs.Common.{◌≡◌, List, false, cond, leb, sym, ap, ◌∙◌, arith}
use Rattle.node_group.specs.Group.{GroupValue}
use Rattle.window_core.specs.GroupTables.{GroupTableValue, least_moment, nexts_of}
use Rattle.window_core.specs.Window.{states_of}
use Rattle.window_law.specs.Windows.{all_done}
use Rattle.window_core.proofs.GroupTables.{done_is}
use Rattle.window_core.proofs.window.group_table.GroupTable.all_done.Goals as goal

pub returns : goal.returns
returns c =
    let w = c.self.inside in
    let out : w.out ≡ false = ap (λ (x : GroupTableValue). x.out) c.self.view_is ∙ c.requires in
    let in_is : w.group_states.items ≡ c.args.self.now.groups = ap (λ b. cond b w.lent.value.items w.group_states.items) (sym out) ∙ ap (λ (x : GroupTableValue). x.groups) c.self.view_is in
    let until = c.args.until in
    let few = c.ranges.until.fits in
    let least : c.least.result ≡ least_moment (nexts_of (states_of w.group_states.items)) = c.least.ensures ∙ ap least_moment (c.deref.ensures.value ∙ c.self.invariant.nexts out) in
    ap (leb until) least ∙ sym (done_is until (states_of w.group_states.items) (omega (arith, few))) ∙ ap (λ (gs : List GroupValue). all_done until (states_of gs)) in_is

use Rattle.std.proofs.Common.{◌≡◌, All, true, sym, ap, subst, ◌∙◌}
use Rattle.node_group.specs.Group.{IsOnRun}
use Rattle.window_core.specs.GroupTables.{GroupTableValue}
use Rattle.window_core.specs.Window.{IsWindow, IsFrom}
use Rattle.window_core.specs.WindowOf.{window_of}
use Rattle.window_core.proofs.Windowed.{split_out, from_out, all_on_run}
use Rattle.window_core.proofs.WindowFields.{moved_out, groups_are}
use Rattle.window_core.proofs.window.Window.take_groups.Goals as goal

pub hand_out-requires-clause-on_run : goal.hand_out-requires-clause-on_run
hand_out-requires-clause-on_run c = subst (All IsOnRun) (sym (groups_are c.self.inside c.args.self.now c.self.view_is)) (all_on_run c.args.self.now (subst IsWindow c.self.view_is c.self.invariant.window))

pub invariant_of-self : goal.invariant_of-self
invariant_of-self c =
    let w = c.self.inside in
    let v = c.args.self.now in
    let is : IsWindow v = subst IsWindow c.self.view_is c.self.invariant.window in
    let view : window_of (record w { group_table = c.hand_out.new.self }) ≡ record v { out = true } = ap (λ (r : GroupTableValue). window_of (record w { group_table = r })) c.hand_out.ensures.state ∙ moved_out (window_of w) v c.self.view_is w.group_table.groups v.groups (groups_are w v c.self.view_is) true in
    record {
      window = subst IsWindow (sym view) (record { split = split_out v true is.split; edge = is.edge; from = from_out v true is.edge is.from });
      nexts = c.self.invariant.nexts;
      ranks = c.self.invariant.ranks;
    }

pub returns-clause-from : goal.returns-clause-from
returns-clause-from c edge from =
    let w = c.self.inside in
    let v = c.args.self.now in
    let view : window_of (record w { group_table = c.hand_out.new.self }) ≡ record v { out = true } = ap (λ (r : GroupTableValue). window_of (record w { group_table = r })) c.hand_out.ensures.state ∙ moved_out (window_of w) v c.self.view_is w.group_table.groups v.groups (groups_are w v c.self.view_is) true in
    subst (IsFrom edge) (sym view) (from_out v true edge from)

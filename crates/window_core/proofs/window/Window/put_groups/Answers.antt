use Rattle.std.proofs.Common.{◌≡◌, false, sym, ap, subst, ◌∙◌}
use Rattle.window_core.specs.GroupTables.{GroupTableValue}
use Rattle.window_core.specs.Window.{IsWindow, IsFrom}
use Rattle.window_core.specs.WindowOf.{window_of}
use Rattle.window_core.proofs.Windowed.{split_returned, from_returned}
use Rattle.window_core.proofs.window.Window.put_groups.Goals as goal

pub invariant_of-self : goal.invariant_of-self
invariant_of-self c =
    let w = c.self.inside in
    let v = c.args.self.now in
    let back = c.args.groups.items in
    let is : IsWindow v = subst IsWindow c.self.view_is c.self.invariant.window in
    let view : window_of (record w { group_table = c.take_back.new.self }) ≡ record v { groups = back; out = false } = ap (λ (r : GroupTableValue). window_of (record w { group_table = r })) c.take_back.ensures ∙ (λ i. record (c.self.view_is i) { groups = back; out = false }) in
    record {
      window = subst IsWindow (sym view) (record { split = split_returned v back c.requires.count c.requires.fired is.split; edge = is.edge; from = from_returned v back c.requires.count c.requires.fired is.split is.edge is.from });
      nexts = c.self.invariant.nexts;
      ranks = c.self.invariant.ranks;
    }

pub returns-clause-from : goal.returns-clause-from
returns-clause-from c edge from =
    let w = c.self.inside in
    let v = c.args.self.now in
    let back = c.args.groups.items in
    let is : IsWindow v = subst IsWindow c.self.view_is c.self.invariant.window in
    let view : window_of (record w { group_table = c.take_back.new.self }) ≡ record v { groups = back; out = false } = ap (λ (r : GroupTableValue). window_of (record w { group_table = r })) c.take_back.ensures ∙ (λ i. record (c.self.view_is i) { groups = back; out = false }) in
    subst (IsFrom edge) (sym view) (from_returned v back c.requires.count c.requires.fired is.split edge from)

use Rattle.std.proofs.Common.{◌≡◌, min, map, sym, ap, subst, ◌∙◌}
use Rattle.window_core.specs.GroupTables.{GroupTableValue}
use Rattle.window_core.specs.Window.{WindowValue, IsWindow, IsFrom}
use Rattle.window_core.specs.WindowOf.{window_of}
use Rattle.window_core.proofs.Windowed.{bounded, limited, split_limited, from_limited}
use Rattle.window_core.proofs.WindowFields.{altered, groups_are}
use Rattle.window_core.proofs.window.Window.limit.Goals as goal

pub invariant_of-self : goal.invariant_of-self
invariant_of-self c =
    let w = c.self.inside in
    let v = c.args.self.now in
    let u = min v.until c.args.until in
    let m = c.min-self-inside.result in
    let until : m ≡ u = c.min-self-inside.ensures ∙ ap (λ (x : WindowValue). min x.until c.args.until) c.self.view_is in
    let view : window_of (record w { until = m; group_table = c.set_until.new.self }) ≡ limited v u =
    ap (λ (r : GroupTableValue). window_of (record w { until = m; group_table = r })) c.set_until.ensures
    ∙ altered (window_of w) v c.self.view_is m u until (map (bounded m) w.group_table.groups) (map (bounded u) v.groups) (λ i. map (bounded (until i)) (groups_are w v c.self.view_is i)) in
    let is : IsWindow v = subst IsWindow c.self.view_is c.self.invariant.window in
    record {
      window = subst IsWindow (sym view) (record { split = split_limited v u is.split; edge = is.edge; from = from_limited v c.args.until c.requires.unfired is.edge is.from });
      nexts = c.self.invariant.nexts;
      ranks = c.self.invariant.ranks;
    }

pub returns-clause-from : goal.returns-clause-from
returns-clause-from c edge from =
    let w = c.self.inside in
    let v = c.args.self.now in
    let u = min v.until c.args.until in
    let m = c.min-self-inside.result in
    let until : m ≡ u = c.min-self-inside.ensures ∙ ap (λ (x : WindowValue). min x.until c.args.until) c.self.view_is in
    let view : window_of (record w { until = m; group_table = c.set_until.new.self }) ≡ limited v u =
    ap (λ (r : GroupTableValue). window_of (record w { until = m; group_table = r })) c.set_until.ensures
    ∙ altered (window_of w) v c.self.view_is m u until (map (bounded m) w.group_table.groups) (map (bounded u) v.groups) (λ i. map (bounded (until i)) (groups_are w v c.self.view_is i)) in
    subst (IsFrom edge) (sym view) (from_limited v c.args.until c.requires.unfired edge from)

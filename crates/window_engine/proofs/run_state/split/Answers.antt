use Rattle.std.proofs.Common.{◌≡◌, ◌∙◌, ap, subst, List, ℕ, length}
use Rattle.window_engine.specs.RunStates.{Opens}
use Rattle.window_engine.proofs.Grouped.{begun_groups, opened_reached, same_copy}
use Rattle.window_engine.proofs.run_state.split.Goals as goal

pub new-requires : goal.new-requires
new-requires c = ap length (same_copy c.copy.result _ _ c.unwrap.ensures c.copy.ensures) ∙ c.requires

pub returns-in-Ok : goal.returns-in-Ok
returns-in-Ok c =
    let groups = c.unwrap.result in
    let e = c.in-Ok.ensures in
    let same : groups ≡ c.args.groups.now = same_copy c.copy.result _ _ c.unwrap.ensures c.copy.ensures in
    subst (λ (l : List ℕ). Opens c.args.net l c.in-Ok.window) same
    (record {
      edge = record { inside = e.inside; unfired = e.unfired; until = e.until };
      net_is = opened_reached c.in-Ok.window c.args.net e.from e.position e.unfired;
      end = e.end;
      entries = e.entries;
      ahead = e.ahead;
      run = begun_groups c.in-Ok.window c.args.net groups e.from e.unfired e.entries (ap length same ∙ c.requires);
    })

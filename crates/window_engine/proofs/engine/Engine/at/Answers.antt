use Rattle.std.proofs.Common.{◌∙◌, ◌≤◌, ap, arith, subst, sym, ℕ, List, Option}
use Rattle.net_machine.specs.Run.{Reached}
use Rattle.window_core.specs.Partition.{groups_of}
use Rattle.window_engine.specs.RunStates.{RunsIn}
use Rattle.window_engine.proofs.Between.{net_at}
use Rattle.window_workers.specs.Edges.{reached_in}
use Rattle.window_engine.proofs.engine.Engine.at.Goals as goal

pub returns-clause-net : goal.returns-clause-net
returns-clause-net c =
    let e = c.in_ok-window.ensures in
    ap (λ (n : ℕ). net_at c.in_ok-window.window n) (c.position-position.ensures.count ∙ sym (ap (λ (n : Reached). n.position) e.net_is)) ∙ e.net_is

pub invariant_of-result : goal.invariant_of-result
invariant_of-result c _ =
    let e = c.in_ok-window.ensures in
    let at = c.position-position.ensures.count in
    let fits = c.position-position.ensures.is_run.position_fits in
    let many = c.groups-many.ensures.count in
    let most = c.groups-many.ensures.most in
    let between = c.lookahead.ensures in (
      record {
        edge = e.edge;
        committed = at ∙ sym (ap (λ (n : Reached). n.position) e.net_is);
        few = omega (arith, at, fits);
        end = c.end-end.ensures ∙ sym e.end;
        groups = subst (λ (l : List ℕ). groups_of l ≤ 64) (sym e.entries) (omega (arith, many, most));
      },
      record {
        run = subst (λ (a : Option ℕ). RunsIn c.args.partition a (reached_in c.in_ok-window.window)) (sym between) e.run;
        apart = (e.entries, sym between);
      },
    )

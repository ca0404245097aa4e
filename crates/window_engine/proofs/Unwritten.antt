-- Windows whose lines are written while the next one runs.
use Rattle.std.proofs.Common.{◌≡◌, ◌≤◌, ◌+◌, ℕ, List, [], length, Option, Some, ap, sym, subst, ◌∙◌, arith}
use Rattle.sim_time.specs.declared.limits.TheConstants.{MOST_EVENTS}
use Rattle.node_core.specs.TraceLine.{TraceLine}
use Rattle.table_run.specs.State.{State, run}
use Rattle.net_machine.specs.Run.{Reached}
use Rattle.window_core.specs.Full.{HasTooMany}
use Rattle.window_core.specs.Sheaves.{SheafValue, merged}
use Rattle.window_workers.proofs.NoLine.{no_line}
use Rattle.window_engine.specs.declared.run_state.RunState.{RunState}
use Rattle.window_engine.specs.RunStates.{AtRest, IsBehind, Wrote, WroteTo}
use Rattle.window_workers.specs.Edges.{edge_of, reached_in}
use Rattle.window_engine.specs.Engines.{AreWhole}
use Rattle.window_engine.proofs.TooMany.{earlier_full}
use Rattle.window_engine.proofs.Whole.{whole_none}

module _ (net : Reached) (c : RunState) (is : IsBehind net c) where
  -- what a run has after the lines that are not committed yet, it has after those that are
  pub full_before : HasTooMany (reached_in c.window) → HasTooMany net
  full_before many = let gone = is.gone in earlier_full net (reached_in c.window) (merged c.sheaf).lines gone.is_run gone.position is.few many

  -- once they are committed, none is left
  pub all_committed : (position : ℕ) → position ≡ c.position + length (merged c.sheaf).lines → position ≡ c.window.position
  all_committed position at = let p = is.gone.position in let q = is.committed in omega (arith, at, p, q)

  -- and written, up to the window's edge
  pub wrote_to_edge : (until position count : ℕ) (a b : Option (List ℕ)) → position ≡ c.position + length (merged c.sheaf).lines → Wrote until net (reached_in c.window) count a b → WroteTo until net position a b
  wrote_to_edge until position count a b at w = record { new = reached_in c.window; count = count; wrote = w; position_is = all_committed position at }

  -- those that are committed can be counted
  pub few_before : net.position ≤ MOST_EVENTS
  few_before = let p = is.gone.position in let q = is.few in omega (arith, p, q)

-- with a sheaf of no line a run state at rest is behind by none
pub behind_by_none : (c : RunState) (s : SheafValue) → AtRest c → s ≡ record { first = c.position + 1; lists = [] } → IsBehind (reached_in c.window) (record c { sheaf = s })
behind_by_none c s rest is =
    let at = rest.committed in
    let few = rest.few in
    let none = no_line s (c.position + 1) is in
    let some : List TraceLine → Option (List TraceLine × State) = λ l. Some (l, edge_of c.window) in
    record {
      edge = rest.edge;
      gone = record {
        first = ap (λ (x : SheafValue). x.first) is ∙ ap (λ n. n + 1) at;
        is_run = ap (λ l. run (edge_of c.window) (length l)) none ∙ ap some (sym none);
        position = (let e = ap length none in omega (arith, e));
        whole = subst (λ l. AreWhole l (edge_of c.window)) (sym none) (whole_none (edge_of c.window));
      };
      committed = at;
      few = omega (arith, few, at);
      end = rest.end;
      groups = rest.groups;
    }

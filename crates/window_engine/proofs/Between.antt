-- The engine between windows: its net, and what its calls make of it.
use Rattle.std.proofs.Common.{◌≡◌, ◌≤◌, ◌+◌, ℕ, suc, min, List, [], ◌∷◌, length, Option, Result, Ok, Err, IfOk, refl, sym, ap, subst, ◌∙◌, true, false, arith}
use Rattle.std.proofs.lemmas.List.{length-map}
use Rattle.std.specs.List.{enumerate_from}
use Rattle.sim_time.specs.declared.limits.TheConstants.{MOST_EVENTS}
use Rattle.scenario_image.specs.declared.parts.ScenarioParts.{ScenarioParts}
use Rattle.scenario_image.specs.Scenario.{IsScenario}
use Rattle.node_core.specs.Initial.{initial_part}
use Rattle.node_core.specs.TraceLine.{TraceLine}
use Rattle.window_core.specs.Lookahead.{lookahead}
use Rattle.window_core.specs.Partition.{group_in}
use Rattle.table_run.specs.State.{State, initial}
use Rattle.table_run.specs.Laws.{ComesTo}
use Rattle.net_machine.specs.Run.{Reached, IsRun}
use Rattle.window_core.specs.Batches.{BatchValue}
use Rattle.window_core.specs.Window.{WindowValue, IsFrom, IsWindow, states_of}
use Rattle.window_core.specs.Windows.{AreBelow, none_fired}
use Rattle.window_workers.specs.Edges.{IsAtEdge, edge_of, reached_in}
use Rattle.window_engine.specs.Engines.{EngineValue, GoesOn, NoneBelow, Commits, window_end_by}
use Rattle.window_engine.specs.declared.fault.EngineFault.TheVariants.{Failed}
use Rattle.window_engine.proofs.Whole.{whole_none}
use Rattle.window_text.proofs.Bytes.{appends_nothing}
use Rattle.window_workers.proofs.Edge.{edge_is}
use Rattle.window_engine.proofs.Resting.{end_is}

-- the net of a window, where so many events are committed
abbrev pub net_at : WindowValue → ℕ → Reached
net_at v position = record { state = edge_of v; position = position }

pub net_is : (v : WindowValue) (position : ℕ) → position ≡ v.position → net_at v position ≡ reached_in v
net_is v position e = ap (net_at v) e

-- a window that opened at a net has it
pub opened_net : (v : WindowValue) (net : Reached) → IsFrom net.state v → none_fired (states_of v.groups) ≡ true → net_at v net.position ≡ net
opened_net v net from none = ap (λ (s : State). record { state = s; position = net.position }) (edge_is v net.state from none)

-- its net is one of a run
pub net_of_run : (v : WindowValue) (position : ℕ) → IsAtEdge v → IsWindow v → position ≡ v.position → position ≤ MOST_EVENTS → IsRun (net_at v position)
net_of_run v position at is committed few =
    let state : is.edge ≡ edge_of v = sym (edge_is v is.edge is.from at.unfired) in
    record {
      scenario = is.from.scenario;
      lines = is.from.before;
      is_scenario = is.from.in_run.is_scenario;
      position_fits = few;
      is =
          subst (λ (s : State). ComesTo is.from.scenario position is.from.before s) state
          (subst (λ (n : ℕ). ComesTo is.from.scenario n is.from.before is.edge) (sym committed) is.from.in_run.comes);
    }

-- the window's end as the engine's value has it
pub left_below : (v w : WindowValue) (entries : List ℕ) (position until : ℕ) → IsAtEdge v → IsWindow v → NoneBelow (min v.until until) (edge_of w)
    → NoneBelow (window_end_by (record { entries = entries; ahead = v.ahead; net = net_at v position; failed = false }) until) (edge_of w)
left_below v w entries position until at is none = subst (λ (e : ℕ). NoneBelow (min e until) (edge_of w)) (end_is v at is) none

-- and none of its lines is of an event past it
pub early_below : (v : WindowValue) (entries : List ℕ) (position until : ℕ) (lines : List TraceLine) → IsAtEdge v → IsWindow v → AreBelow (min v.until until) lines
    → AreBelow (window_end_by (record { entries = entries; ahead = v.ahead; net = net_at v position; failed = false }) until) lines
early_below v entries position until lines at is early = subst (λ (e : ℕ). AreBelow (min e until) lines) (end_is v at is) early

-- the same of an engine whose net is in other groups
module _ (v u : WindowValue) (entries : List ℕ) (ahead : Option ℕ) (position until : ℕ) (at : IsAtEdge u) (is : IsWindow u) (same : reached_in u ≡ reached_in v) (between : u.ahead ≡ ahead) where
  abbrev pub value : State → Option ℕ → EngineValue
  value s a = record { entries = entries; ahead = a; net = record { state = s; position = position }; failed = false }

  state : edge_of u ≡ edge_of v
  state = ap (λ (r : Reached). r.state) same

  pub left_apart : (w : WindowValue) → NoneBelow (min u.until until) (edge_of w) → NoneBelow (window_end_by (value (edge_of v) ahead) until) (edge_of w)
  left_apart w none =
      subst (λ (s : State). NoneBelow (window_end_by (value s ahead) until) (edge_of w)) state
      (subst (λ (a : Option ℕ). NoneBelow (window_end_by (value (edge_of u) a) until) (edge_of w)) between (left_below u w entries position until at is none))

  pub early_apart : (lines : List TraceLine) → AreBelow (min u.until until) lines → AreBelow (window_end_by (value (edge_of v) ahead) until) lines
  early_apart lines early =
      subst (λ (s : State). AreBelow (window_end_by (value s ahead) until) lines) state
      (subst (λ (a : Option ℕ). AreBelow (window_end_by (value (edge_of u) a) until) lines) between (early_below u entries position until lines at is early))

-- a window that was committed
pub goes_on : (v w : WindowValue) (old new : ℕ) (batch : BatchValue) → old ≡ v.position → new ≡ w.position → GoesOn (reached_in v) batch (reached_in w) → GoesOn (net_at v old) batch (net_at w new)
goes_on v w old new batch e f gone =
    subst (λ (r : Reached). GoesOn r batch (net_at w new)) (sym (net_is v old e)) (subst (λ (r : Reached). GoesOn (reached_in v) batch r) (sym (net_is w new f)) gone)

enumerate_length : {X : Type 0} (n : ℕ) (xs : List X) → length (enumerate_from n xs) ≡ length xs
enumerate_length n [] = refl
enumerate_length n (x ∷ xs) = ap suc (enumerate_length (n + 1) xs)

-- a scenario's net has its nodes
pub initial_nodes : (p : ScenarioParts) → length (initial p).parts ≡ length p.nodes
initial_nodes p = length-map (enumerate_from 0 p.nodes) (initial_part p) ∙ enumerate_length 0 p.nodes

-- the net that a window's own call gives
pub edge_net : (v : WindowValue) (position : ℕ) (net : Reached) → position ≡ v.position → IsWindow v → IsAtEdge v → ((edge : State) → IsFrom edge v → net ≡ record { state = edge; position = v.position }) → net ≡ net_at v position
edge_net v position net committed is at gives =
    gives is.edge is.from ∙ ap (λ (s : State). record { state = s; position = v.position }) (sym (edge_is v is.edge is.from at.unfired)) ∙ sym (net_is v position committed)

-- a window gives its edge's net, where it gives one
pub edge_given : {E : Type 0} (r : Result Reached E) (v : WindowValue) (position : ℕ) → position ≡ v.position → IsWindow v → IsAtEdge v → ((edge : State) → IsFrom edge v → IfOk r (λ net. net ≡ record { state = edge; position = v.position }))
    → IfOk r (λ net. net ≡ net_at v position)
edge_given (Ok net) v position committed is at gives = edge_net v position net committed is at gives
edge_given (Err e) v position committed is at gives = tt

-- a call on an engine that has failed commits nothing
pub commits_none : {T : Type 0} (until : ℕ) (net : Reached) (known : Option (List ℕ)) → Commits {T = T} until net (Err Failed) net known known
commits_none until net known = record { lines = []; state = net.state; is_run = refl; whole = whole_none net.state; early = tt; position_is = omega arith; state_is = tt; takes = appends_nothing known }

-- an engine that begins with a scenario's net
pub begun : {E : Type 0} (r : Result EngineValue E) (p : ScenarioParts) (entries : List ℕ) (net : Reached) → IsScenario p → net ≡ record { state = initial p; position = 0 }
    → IfOk r (λ e. e.net ≡ net) → IfOk r (λ e. e.entries ≡ entries)
    → IfOk r (λ e. (q : ScenarioParts) (before : List TraceLine) → IsScenario q → ComesTo q net.position before net.state → e.ahead ≡ lookahead (group_in entries) q.links) → IfOk r (λ e. e.failed ≡ false)
    → IfOk r (λ e. e ≡ record { entries = entries; ahead = lookahead (group_in entries) p.links; net = record { state = initial p; position = 0 }; failed = false })
begun (Err x) p entries net is at n e a f = tt
begun (Ok v) p entries net is at n e a f =
    let comes : ComesTo p net.position [] net.state = subst (λ (r : Reached). ComesTo p r.position [] r.state) (sym at) refl in
    let ahead = a p [] is comes in
    let nets = n ∙ at in
    λ i. record { entries = e i; ahead = ahead i; net = nets i; failed = f i }

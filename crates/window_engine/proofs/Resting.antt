-- A window at its edge: when its next event is, and where it ends.
use Rattle.std.proofs.Common.{◌≡◌, ◌≢◌, ◌≤◌, ◌<◌, ℕ, Option, Some, None, option_map, refl, sym, ap, ◌∙◌, arith, cond}
use Rattle.std.proofs.lemmas.Bool.{le-ltb, lt-ltb}
use Rattle.sim_time.specs.declared.key.Key.{Key}
use Rattle.tournament.specs.Keyed.{least}
use Rattle.tournament.proofs.Maps.{not_some, same_some}
use Rattle.node_core.specs.declared.event.Event.{Event}
use Rattle.table_run.specs.State.{State, below, due}
use Rattle.window_core.specs.Partition.{group_in}
use Rattle.window_core.specs.Window.{WindowValue, IsWindow, states_of}
use Rattle.window_core.specs.Windows.{soonest, sum_of, at_most}
use Rattle.window_workers.specs.Edges.{IsAtEdge, edge_of}
use Rattle.window_engine.specs.Engines.{NoneBelow, next_time}
use Rattle.window_workers.proofs.Edge.{stands_at, edge_is}
use Rattle.window_engine.proofs.Soonest.{soonest_is}

abbrev time_of : Option (Key × Event) → Option ℕ
time_of o = option_map (λ (k : Key). k.time) (option_map (λ (entry : Key × Event). entry.0) o)

none_in : (o : Option (Key × Event)) (end : ℕ) → time_of o ≡ None → below end o ≡ None
none_in None end e = refl
none_in (Some x) end e = absurd (not_some (sym e))

late_in : (o : Option (Key × Event)) (end time : ℕ) → time_of o ≡ Some time → end ≤ time → below end o ≡ None
late_in None end time e late = absurd (not_some e)
late_in (Some x) end time e late =
    let is : x.0.time ≡ time = same_some x.0.time time e in
    ap (λ b. cond b (Some x) None) (le-ltb x.0.time end (omega (arith, is, late)))

soon_in : (o : Option (Key × Event)) (end time : ℕ) → time_of o ≡ Some time → time < end → below end o ≢ None
soon_in None end time e soon = absurd (not_some e)
soon_in (Some x) end time e soon =
    let is : x.0.time ≡ time = same_some x.0.time time e in
    let some : below end (Some x) ≡ Some x = ap (λ b. cond b (Some x) None) (lt-ltb x.0.time end (omega (arith, is, soon))) in
    λ none. not_some (sym none ∙ some)

-- nothing is pending
pub none_pending : (s : State) → next_time s ≡ None → due s ≡ None
none_pending s e = none_in (least s.pending) s.end e

-- what is pending is at a moment or later
pub none_before : (s : State) (moment time : ℕ) → next_time s ≡ Some time → moment ≤ time → NoneBelow moment s
none_before s moment time e late = late_in (least s.pending) moment time e late

-- something is due
pub some_due : (s : State) (time : ℕ) → next_time s ≡ Some time → time < s.end → due s ≢ None
some_due s time e soon = soon_in (least s.pending) s.end time e soon

-- the groups' least moment is the net's
pub next_is : (v : WindowValue) → IsAtEdge v → IsWindow v → soonest (states_of v.groups) ≡ next_time (edge_of v)
next_is v at is =
    soonest_is (group_in v.entries) is.edge (states_of v.groups) (stands_at v is.edge is.from at.unfired)
    ∙ ap next_time (sym (edge_is v is.edge is.from at.unfired))

-- the window's end is that of the net's next window
pub end_is : (v : WindowValue) → IsAtEdge v → IsWindow v → v.until ≡ at_most (sum_of (next_time (edge_of v)) v.ahead) v.end
end_is v at is = at.until ∙ ap (λ (o : Option ℕ). at_most (sum_of o v.ahead) v.end) (next_is v at is)
